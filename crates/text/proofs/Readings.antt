-- What a call line that is read as a call guarantees: its caller, its numbers, items and pairs are in range, no item twice, and a comesall has a pair.
use Prim.Native.Nat.{ℕ, suc, ◌≤◌}
use native.Mathlib.Omega.{arith}
use mathlib.Core.Path.{◌≡◌, refl, subst}
use mathlib.Core.Bool.{Bool, true, false, not, cond, ◌&&◌}
use mathlib.Core.List.{List, [], ◌∷◌, ◌++◌, map}
use lib.ListN.{length}
use lib.Dec.{leb, ltb, eqb}
use borrow.Author.Tests.{ltb-false, leb-true, lt-ltb}
use Rattle.rows.specs.Lists.{all, distinct, between, some, filter}
use Rattle.rows.specs.Limits.{processes, all_rights, greatest_number, most_items, most_pairs, most_bytes}
use Rattle.rows.proofs.Bools.{and_l, and_r, all-mono}
use Rattle.rows.proofs.Places.{between-range}
use Rattle.calls.specs.declared.Item.{Item}
use Rattle.calls.specs.declared.Sixteen.{Sixteen}
use Rattle.calls.specs.declared.Call.{Call}
use Rattle.calls.specs.declared.Call.TheVariants.{Go, Hold, Register, Drop, Port, Close, Ask, Fetch, Revoke, Comes, Chain, ComesAll}
use Rattle.calls.specs.Rules.{is_refusal}
use Rattle.calls.specs.Calls.{four_from, sixteen_from}
use Rattle.calls.specs.Loans.{items_of}
use Rattle.calls.specs.vocabulary.Effects.{IsProcess}
use Rattle.calls.specs.vocabulary.Performs.{CallerInRange}
use Rattle.text.specs.declared.Reading.{Reading}
use Rattle.text.specs.declared.Reading.TheVariants.{Asks, Crowded, Refused}
use Rattle.text.specs.Patterns.{form, whole, word_of, most_groups}
use Rattle.text.specs.CallLines.{is_process, is_number, ranged, simple, simple_form, chain_form, answer_form, comes_form, Group, gathered, pair_ranged, comes_all, judged_pairs, comes_all_form, item_of, item_ranged, no_item, packed, judged, ask_form, reading_of}
use Rattle.text.specs.ReadBack.{pairs_of}
use Rattle.text.proofs.Firsts.{pairs-back}

-- ---- what is guaranteed
pub record GoodNumber (p e : ℕ) : Type 0 where
  pub caller : is_process p ≡ true
  pub number : is_number e ≡ true

pub record GoodGo (p e : ℕ) : Type 0 where
  pub caller : is_process p ≡ true
  pub number : e ≤ greatest_number

pub record GoodAsk (p c : ℕ) (is : List Item) : Type 0 where
  pub caller : is_process p ≡ true
  pub number : is_number c ≡ true
  pub few : length is ≤ most_items
  pub rows : all (λ i. is_number i.row) is ≡ true
  pub rights : all (λ i. leb i.rights all_rights) is ≡ true
  pub apart : distinct (map (λ i. i.row) is) ≡ true

pub record GoodComes (e q : ℕ) : Type 0 where
  pub row : is_number e ≡ true
  pub request : is_number q ≡ true

pub record GoodPairs (es qs : Sixteen) : Type 0 where
  pub there : some es.first.first ≡ true
  pub pairs : all pair_ranged (pairs_of es qs) ≡ true

unfoldable pub Good : Call → Type 0
Good (Go p e) = GoodGo p e
Good (Hold p s) = GoodNumber p s
Good (Register p e) = GoodNumber p e
Good (Drop p e) = GoodNumber p e
Good (Port p e) = GoodNumber p e
Good (Close p c) = GoodNumber p c
Good (Ask p c is) = GoodAsk p c (items_of is)
Good (Fetch p v) = GoodNumber p v
Good (Call.Answer p v served) = GoodNumber p v
Good (Revoke p q) = GoodNumber p q
Good (Comes e q) = GoodComes e q
Good (Chain e) = is_number e ≡ true
Good (ComesAll es qs) = GoodPairs es qs

-- a call that is read is good; a refusal has such a number
unfoldable Reads : Reading → Type 0
Reads (Asks c) = Good c
Reads (Crowded p) = is_process p ≡ true
Reads (Refused k) = is_refusal k ≡ true

-- ---- by the definitions of CallLines, one after the other
if-reads : (b : Bool) (x y : Reading) → Reads x → Reads y → Reads (cond b x y)
if-reads true x y p q = p
if-reads false x y p q = q

ranged-reads : (b : Bool) (c : Call) → (b ≡ true → Good c) → Reads (ranged b c)
unfolding ranged Reads
ranged-reads true c h = h refl
ranged-reads false c h = refl

number-reads : (p e : ℕ) (f : ℕ → ℕ → Call) → (GoodNumber p e → Good (f p e)) → Reads (ranged (is_process p && is_number e) (f p e))
number-reads p e f h =
    ranged-reads (is_process p && is_number e) (f p e) (λ q. h (record { caller = and_l (is_process p) (is_number e) q; number = and_r (is_process p) (is_number e) q }))

simple-reads : (w p e : ℕ) → Reads (simple w p e)
unfolding simple Good Reads
simple-reads w p e =
    if-reads (eqb w (word_of "go")) _ _
    (ranged-reads (is_process p && leb e greatest_number) (Go p e)
    (λ q.
    record {
      caller = and_l (is_process p) (leb e greatest_number) q;
      number = leb-true e greatest_number (and_r (is_process p) (leb e greatest_number) q);
    }))
    (if-reads (eqb w (word_of "hold")) _ _ (number-reads p e Hold (λ g. g))
    (if-reads (eqb w (word_of "register")) _ _ (number-reads p e Register (λ g. g))
    (if-reads (eqb w (word_of "drop")) _ _ (number-reads p e Drop (λ g. g))
    (if-reads (eqb w (word_of "port")) _ _ (number-reads p e Port (λ g. g))
    (if-reads (eqb w (word_of "close")) _ _ (number-reads p e Close (λ g. g))
    (if-reads (eqb w (word_of "fetch")) _ _ (number-reads p e Fetch (λ g. g))
    (if-reads (eqb w (word_of "revoke")) _ _ (number-reads p e Revoke (λ g. g)) refl)))))))

simple-form-reads : (s : List ℕ) (other : Reading) → Reads other → Reads (simple_form s other)
unfolding simple_form
simple-form-reads s other h =
    let f = form s 0 "(# @ #)\n" in
    if-reads (whole s f) (simple f.word f.b f.c) other (simple-reads f.word f.b f.c) h

chain-form-reads : (s : List ℕ) → Reads (chain_form s)
unfolding chain_form Good Reads
chain-form-reads s =
    let f = form s 0 "(chain #)\n" in
    if-reads (whole s f) (ranged (is_number f.c) (Chain f.c)) (Refused 2) (ranged-reads (is_number f.c) (Chain f.c) (λ e. e)) refl

answer-form-reads : (s : List ℕ) (other : Reading) → Reads other → Reads (answer_form s other)
unfolding answer_form Good Reads
answer-form-reads s other h =
    let f = form s 0 "(# answer # #)\n" in
    let p = is_process f.a in
    let v = is_number f.b in
    let x = leb f.c 1 in
    let call = Call.Answer f.a f.b (eqb f.c 1) in
    if-reads (whole s f) (ranged (p && (v && x)) call) other
    (ranged-reads (p && (v && x)) call (λ e. record { caller = and_l p (v && x) e; number = and_l v x (and_r p (v && x) e) })) h

comes-form-reads : (s : List ℕ) (other : Reading) → Reads other → Reads (comes_form s other)
unfolding comes_form Good
comes-form-reads s other h =
    let f = form s 0 "(comes # #)\n" in
    let r = is_number f.b in
    let q = is_number f.c in
    if-reads (whole s f) (ranged (r && q) (Comes f.b f.c)) other
    (ranged-reads (r && q) (Comes f.b f.c) (λ e. record { row = and_l r q e; request = and_r r q e })) h

-- ---- the items of an ask
is_named : Item → Bool
is_named i = some i.row

all_named : (is js : List Item) → all is_named is ≡ true → filter is_named (is ++ js) ≡ is ++ filter is_named js
unfolding filter all
all_named [] js e = refl
all_named (i ∷ is) js e = rw (and_l (is_named i) (all is_named is) e, all_named is js (and_r (is_named i) (all is_named is) e)) refl

-- no more items than places, each named: those named are those packed
items-packed : (is : List Item) → all is_named is ≡ true → length is ≤ most_items → items_of (packed is) ≡ is
unfolding items_of packed no_item is_named filter some most_items
items-packed [] e h = refl
items-packed (a ∷ []) e h = all_named (a ∷ []) (no_item ∷ no_item ∷ no_item ∷ []) e
items-packed (a ∷ b ∷ []) e h = all_named (a ∷ b ∷ []) (no_item ∷ no_item ∷ []) e
items-packed (a ∷ b ∷ c ∷ []) e h = all_named (a ∷ b ∷ c ∷ []) (no_item ∷ []) e
items-packed (a ∷ b ∷ c ∷ d ∷ []) e h = all_named (a ∷ b ∷ c ∷ d ∷ []) [] e
items-packed (a ∷ b ∷ c ∷ d ∷ x ∷ is) e h = absurd (let z : suc (suc (suc (suc (suc (length is))))) ≤ 4 = h in omega arith)

pub number-some : (e : ℕ) → is_number e ≡ true → some e ≡ true
unfolding is_number between some
number-some e h = let l : 1 ≤ e = leb-true 1 e (and_l (leb 1 e) (leb e greatest_number) h) in lt-ltb 0 e (omega arith)

row-ranged : (i : Item) → item_ranged i ≡ true → is_number i.row ≡ true
unfolding item_ranged
row-ranged i e = and_l (is_number i.row) (leb i.rights all_rights) e

rights-ranged : (i : Item) → item_ranged i ≡ true → leb i.rights all_rights ≡ true
unfolding item_ranged
rights-ranged i e = and_r (is_number i.row) (leb i.rights all_rights) e

pair-some : (x : Group) → pair_ranged x ≡ true → some x.first ≡ true
unfolding pair_ranged
pair-some x e = number-some x.first (and_l (is_number x.first) (is_number x.second) e)

judged-reads : (p c : ℕ) (is : List Item) → Reads (judged p c is)
unfolding judged Reads Good is_named
judged-reads p c is =
    pick (is_process p && (is_number c && all item_ranged is)) refl (distinct (map (λ i. i.row) is)) refl (ltb most_items (length is)) refl
  where
    pick : (a : Bool) → is_process p && (is_number c && all item_ranged is) ≡ a → (b : Bool) → distinct (map (λ i. i.row) is) ≡ b → (l : Bool) → ltb most_items (length is) ≡ l
        → Reads (cond (not a) (Refused 3) (cond (not b) (Refused 4) (cond l (Crowded p) (Asks (Ask p c (packed is))))))
    pick false ea b eb l el = refl
    pick true ea false eb l el = refl
    pick true ea true eb true el = and_l (is_process p) (is_number c && all item_ranged is) ea
    pick true ea true eb false el =
        let r = and_r (is_process p) (is_number c && all item_ranged is) ea in
        let ok : all item_ranged is ≡ true = and_r (is_number c) (all item_ranged is) r in
        let few : length is ≤ most_items = ltb-false most_items (length is) el in
        let rows : all (λ i. is_number i.row) is ≡ true = all-mono item_ranged (λ i. is_number i.row) (λ i q. row-ranged i q) is ok in
        rw (items-packed is (all-mono item_ranged is_named (λ i q. number-some i.row (row-ranged i q)) is ok) few)
        (record {
          caller = and_l (is_process p) (is_number c && all item_ranged is) ea;
          number = and_l (is_number c) (all item_ranged is) r;
          few = few;
          rows = rows;
          rights = all-mono item_ranged (λ i. leb i.rights all_rights) (λ i q. rights-ranged i q) is ok;
          apart = eb;
        })

ask-form-reads : (s : List ℕ) (other : Reading) → Reads other → Reads (ask_form s other)
unfolding ask_form
ask-form-reads s other h =
    let f = form s 0 "(# ask #" in
    let g = gathered most_groups s f.next in
    if-reads (f.good && whole s (form s g.next ")\n")) (judged f.b f.c (map item_of g.groups)) other (judged-reads f.b f.c (map item_of g.groups)) h

-- ---- the pairs of a comesall
-- as many as there are places, each in range: those read are those that the call holds
ranged-pairs : (xs : List Group) → all pair_ranged xs ≡ true → length xs ≤ most_pairs
    → all pair_ranged (pairs_of (sixteen_from (map (λ x. x.first) xs)) (sixteen_from (map (λ x. x.second) xs))) ≡ true
ranged-pairs xs a h = rw (pairs-back xs h (all-mono pair_ranged (λ x. some x.first) pair-some xs a)) a

pairs-reads : (xs : List Group) → Reads (judged_pairs xs)
unfolding judged_pairs comes_all sixteen_from four_from Reads Good all
pairs-reads [] = refl
pairs-reads (x ∷ xs) = if-reads (eqb (suc (length xs)) 0) (Refused 2) _ refl (pick (pair_ranged x && all pair_ranged xs) refl (ltb most_pairs (suc (length xs))) refl)
  where
    pick : (a : Bool) → pair_ranged x && all pair_ranged xs ≡ a → (l : Bool) → ltb most_pairs (suc (length xs)) ≡ l
        → Reads (cond (not a) (Refused 3) (cond l (Refused 6) (Asks (comes_all (x ∷ xs)))))
    pick false ea l el = refl
    pick true ea true el = refl
    pick true ea false el =
        record { there = pair-some x (and_l (pair_ranged x) (all pair_ranged xs) ea); pairs = ranged-pairs (x ∷ xs) ea (ltb-false most_pairs (suc (length xs)) el) }

comes-all-form-reads : (s : List ℕ) (other : Reading) → Reads other → Reads (comes_all_form s other)
unfolding comes_all_form
comes-all-form-reads s other h =
    let f = form s 0 "(comesall" in
    let g = gathered most_groups s f.next in
    if-reads (f.good && whole s (form s g.next ")\n")) (judged_pairs g.groups) other (pairs-reads g.groups) h

line_reads : (s : List ℕ) → Reads (reading_of s)
unfolding reading_of Reads
line_reads s =
    let answered = answer_form s (chain_form s) in
    let one = simple_form s answered in
    let comes = comes_form s one in
    let all = comes_all_form s comes in
    if-reads (ltb (suc most_bytes) (length s)) (Refused 2) (ask_form s all) refl
    (ask-form-reads s all
    (comes-all-form-reads s comes (comes-form-reads s one (simple-form-reads s answered (answer-form-reads s (chain_form s) (chain-form-reads s))))))

-- ---- what other files use
pub reading-good : (line : List ℕ) (c : Call) → reading_of line ≡ Asks c → Good c
unfolding Reads
reading-good line c e = subst Reads e (line_reads line)

pub reading-refused : (line : List ℕ) (k : ℕ) → reading_of line ≡ Refused k → is_refusal k ≡ true
unfolding Reads
reading-refused line k e = subst Reads e (line_reads line)

-- ---- what the tables' side asks of a call that is read
process-range : (p : ℕ) → is_process p ≡ true → IsProcess p
unfolding is_process processes
process-range p t = let (lo, hi) = between-range 1 64 p t in (omega arith, hi)

good-in-range : (c : Call) → Good c → CallerInRange c
unfolding Good CallerInRange
good-in-range (Go p e) g = process-range p g.caller
good-in-range (Hold p s) g = process-range p g.caller
good-in-range (Register p e) g = process-range p g.caller
good-in-range (Drop p e) g = process-range p g.caller
good-in-range (Port p e) g = process-range p g.caller
good-in-range (Close p c) g = process-range p g.caller
good-in-range (Ask p c is) g = process-range p g.caller
good-in-range (Fetch p v) g = process-range p g.caller
good-in-range (Call.Answer p v served) g = process-range p g.caller
good-in-range (Revoke p q) g = process-range p g.caller
good-in-range (Comes e q) g = tt
good-in-range (Chain e) g = tt
good-in-range (ComesAll es qs) g = tt

pub reading-in-range : (line : List ℕ) (c : Call) → reading_of line ≡ Asks c → CallerInRange c
reading-in-range line c e = good-in-range c (reading-good line c e)
