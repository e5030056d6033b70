-- Reach, of every session: kept of rows that were there, and of a new row by the row that it was held through or copied from.
use Prim.Native.Nat.{ℕ}
use mathlib.Core.Bool.{true, false}
use mathlib.Core.List.{List}
use mathlib.Core.Path.{◌≡◌, refl, sym, ap, ◌∙◌, subst}
use mathlib.Core.Logic.{◌⊎◌, inl, inr, ⊎_elim}
use Rattle.rows.specs.declared.Row.{Row}
use Rattle.rows.specs.Lists.{some}
use Rattle.rows.specs.Codes.{is_subdirectory, is_end, in_node, in_clist, is_node, may_hold}
use Rattle.rows.specs.Tables.{State, no_row, row_of, process_at, sources}
use Rattle.rows.specs.Setters.{with_place}
use Rattle.rows.proofs.Bools.{clash, or_l, or_r, pos-some, none-zero, true-or-false}
use Rattle.rows.proofs.Lists.{any_at}
use Rattle.rows.proofs.Places.{subdirectory-no-end, clist-not-node, system-no-node}
use Rattle.tables.proofs.Sound.{Sound, sound-open}
use Rattle.tables.proofs.SoundFacts.{next-some, active-node}
use Rattle.tables.proofs.Standing.{via-listed}
use Rattle.calls.specs.declared.Call.{Call}
use Rattle.calls.specs.declared.Call.TheVariants.{Register}
use Rattle.calls.specs.Rules.{copy_of}
use Rattle.calls.specs.Loans.{item_row, copy_lent}
use Rattle.calls.specs.Calls.{port_end}
use Rattle.kept.proofs.Allowed.{HoldAllowed}
use Rattle.kept.proofs.AskCopy.{lendable-there}
use Rattle.text.specs.Opening.{Form}
use Rattle.security.specs.Sessions.{IsRow, Has}
use Rattle.security.specs.Authority.{Arrives, held as a-held, registered as a-registered, client as a-client, server as a-server, copied as a-copied, lent as a-lent, fetched as a-fetched, returned as a-returned}
use Rattle.security.specs.Reach.{Reaches, here, down, Behind, taken, copied, FirstLender, has-it, of-copy, of-way, ReachedBy, ReachOfRows, OnlyRegisterWidens}
use Rattle.security.proofs.Sessions.{session-sound}
use Rattle.security.proofs.Rows.{source-listed, Through, through-at, clist-apart, in-prime-node}
use Rattle.security.proofs.Numbers.{source_row}
use Rattle.security.proofs.Effects.{held_row, Effect}
use Rattle.security.proofs.NewRows.{Newly, held, registered, client, server, copied as lent-copied}
use Rattle.security.proofs.Moves.{item-held}
use Rattle.security.proofs.Steps.{step-moves}
use Rattle.security.proofs.Frames.{same-but-place}
use Rattle.security.proofs.PlacesKept.{end-kinds}
use Rattle.security.proofs.Opened.{opened-text}
use Rattle.security.proofs.RowLaws.{RowLaw, every-row}
use Rattle.security.proofs.Borne.{borne, borne-law, borne-same, lent_is}
use Rattle.security.proofs.Derived.{Unlent, unlent-law, node-as-before, copy-sourced}
use Rattle.security.proofs.Reach.{no-row-zero, bearer-some, request-kept, unmoved, node-stands, node_kept, prime-kept, reaches-kept, first-kept, behind-kept}

-- of a row that hangs on no loan the first lender is who has it
first-has : (st : State) → Sound st → (n p : ℕ) → FirstLender st n p → IsRow st n → borne st n ≡ false → Has st p n
first-has st s n p (has-it n₁ p₁ z v h) t u = h
first-has st s n p (of-copy n₁ p₁ b l) t u = clash (borne-law st s n t ∙ or_l (some (row_of st.rows n).request) _ b) u
first-has st s n p (of-way n₁ p₁ z b l) t u =
    let r = row_of st.rows n in
    let h : some r.via ≡ true = bearer-some st s r.via b in
    let m : IsRow st r.via = source_row st s n r.via t (via-listed r h) in
    let way : borne st r.via ≡ true = borne-law st s r.via m ∙ or_l (some (row_of st.rows r.via).request) _ b in
    clash (borne-law st s n t ∙ or_r (some r.request) _ (any_at (borne st) (sources r) r.via (via-listed r h) way)) u

-- reached, and what the row and its directory row have in common
pub record ReachedAs (st : State) (n : ℕ) : Type 0 where
  pub by : ReachedBy st n
  pub kind : (row_of st.rows n).kind ≡ (row_of st.rows by.directory).kind
  pub object : (row_of st.rows n).object ≡ (row_of st.rows by.directory).object

pub record Law (st : State) (n : ℕ) : Type 0 where
  pub unlent : Unlent st n
  pub reach : is_node (row_of st.rows n).place ≡ false → is_end (row_of st.rows n).kind ≡ false → ReachedAs st n

module _ (st st' : State) (c : Call) (s : Sound st) (s' : Sound st') (x : Effect st c st') (all : (n : ℕ) → IsRow st n → Law st n) where
  abbrev R : ℕ → Row
  R n = row_of st.rows n

  abbrev R' : ℕ → Row
  R' n = row_of st'.rows n

  -- ---- a row that was there
  old-reach : (n : ℕ) → IsRow st n → IsRow st' n → is_node (R n).place ≡ false → is_end (R n).kind ≡ false → ReachedAs st' n
  unfolding with_place
  old-reach n t t' o e =
      let y = (all n t).reach o e in
      let b = y.by in
      let d = b.directory in
      let same = node_kept st st' c s s' x d b.node in
      record {
        by =
            record {
              lender = b.lender;
              first = first-kept st st' c s s' x n b.lender b.first t t' e;
              directory = d;
              behind = behind-kept st st' c s s' x n d b.behind t t';
              stands = node-stands st st' c s s' x d b.node;
              node = ap (λ r. is_node r.place) same ∙ b.node;
              right = ap (λ r. may_hold r.rights) same ∙ b.right;
              reached =
                  subst (λ k. Reaches st' (process_at st'.processes b.lender).prime k.place) (sym same)
                  (subst (λ k. Reaches st' k (R d).place) (sym (prime-kept st st' c s s' x b.lender)) (reaches-kept st st' c s s' x _ _ b.reached));
            };
        kind = same-but-place st st' c s x n t t' (λ r. r.kind) (λ p r. refl) ∙ y.kind ∙ ap (λ r. r.kind) (sym same);
        object = same-but-place st st' c s x n t t' (λ r. r.object) (λ p r. refl) ∙ y.object ∙ ap (λ r. r.object) (sym same);
      }

  -- ---- a lent copy: as the row that it was copied from
  copy-reach : (n m : ℕ) → IsRow st' n → (R' n).source ≡ m → some (R' n).request ≡ true → (R' n).kind ≡ (R m).kind → (R' n).object ≡ (R m).object → IsRow st m → is_node (R m).place ≡ false → is_end (R m).kind ≡ false
      → ReachedAs st' n
  unfolding with_place
  copy-reach n m t' z b k j t o e =
      let m' : IsRow st' m = subst (IsRow st') z (source_row st' s' n (R' n).source t' (source-listed (R' n) (copy-sourced st' s' n t' b))) in
      let y = old-reach m t m' o e in
      let w = y.by in
      record {
        by =
            record {
              lender = w.lender;
              first = of-copy n w.lender b (subst (λ i. FirstLender st' i w.lender) (sym z) w.first);
              directory = w.directory;
              behind = copied n w.directory b (subst (λ i. Behind st'.rows i w.directory) (sym z) w.behind);
              stands = w.stands;
              node = w.node;
              right = w.right;
              reached = w.reached;
            };
        kind = k ∙ sym (same-but-place st st' c s x m t m' (λ r. r.kind) (λ p r. refl)) ∙ y.kind;
        object = j ∙ sym (same-but-place st st' c s x m t m' (λ r. r.object) (λ p r. refl)) ∙ y.object;
      }

  -- ---- a held row
  module _ (n p e : ℕ) (a : HoldAllowed st p e) (t' : IsRow st' n) (is : R' n ≡ held_row st p e) where
    abbrev v : ℕ
    v = (process_at st.processes p).through

    unborne : (R' n).request ≡ 0
    unfolding copy_of
    unborne = ap (λ r. r.request) is

    from : (R' n).source ≡ e
    unfolding copy_of
    from = ap (λ r. r.source) is

    way : (R' n).via ≡ v
    unfolding copy_of
    way = ap (λ r. r.via) is

    mine : Has st' p n
    unfolding copy_of
    mine = ap (λ r. r.place) is

    node_of : R' e ≡ R e
    node_of = node_kept st st' c s s' x e a.node

    at : (R' e).place ≡ (process_at st.processes p).active
    unfolding in_node
    at = ap (λ r. r.place) node_of ∙ a.active

    -- with the first lender and how it comes to the node
    reached-with : (l : ℕ) → FirstLender st' n l → Reaches st' (process_at st'.processes l).prime (process_at st.processes p).active → ReachedAs st' n
    unfolding copy_of
    reached-with l f r =
        record {
          by =
              record {
                lender = l;
                first = f;
                directory = e;
                behind = subst (Behind st'.rows n) from (taken n unborne);
                stands = node-stands st st' c s s' x e a.node;
                node = ap (λ r. is_node r.place) node_of ∙ a.node;
                right = ap (λ r. may_hold r.rights) node_of ∙ a.right;
                reached = subst (Reaches st' (process_at st'.processes l).prime) (sym at) r;
              };
          kind = ap (λ r. r.kind) is ∙ ap (λ r. r.kind) (sym node_of);
          object = ap (λ r. r.object) is ∙ ap (λ r. r.object) (sym node_of);
        }

    -- in the prime node, through none
    at-prime : v ≡ 0 → ReachedAs st' n
    unfolding no_row
    at-prime z =
        reached-with p (has-it n p unborne (ap (λ k. (R' k).request) (way ∙ z) ∙ ap (λ r. r.request) (no-row-zero st' s')) mine)
        (subst (λ k. Reaches st' k (process_at st.processes p).active) (sym (prime-kept st st' c s s' x p)) (subst (Reaches st' (process_at st.processes p).prime) (sym home) here))
      where
        home : (process_at st.processes p).active ≡ (process_at st.processes p).prime
        home = in-prime-node st s p a.caller z

    -- through a subdirectory row of its own c-list
    went : some v ≡ true → ReachedAs st' n
    unfolding with_place
    went h =
        let w = through-at st s p h in
        let v' : IsRow st' v = subst (IsRow st') way (source_row st' s' n (R' n).via t' (via-listed (R' n) (ap some way ∙ h))) in
        let y = old-reach v w.there v' (ap is_node w.place ∙ clist-not-node p) (subdirectory-no-end (R v).kind w.kind) in
        let b = y.by in
        let d = b.directory in
        let kind : (R' v).kind ≡ (R v).kind = same-but-place st st' c s x v w.there v' (λ r. r.kind) (λ p r. refl) in
        let object : (R' v).object ≡ (R v).object = same-but-place st st' c s x v w.there v' (λ r. r.object) (λ p r. refl) in
        let lands : (R' d).object ≡ (process_at st.processes p).active = sym y.object ∙ object ∙ w.object in
        reached-with b.lender (lender y v' w)
        (subst (Reaches st' (process_at st'.processes b.lender).prime) lands
        (down (R' d).place d b.reached b.stands (unfold in_node in refl) b.node (ap is_subdirectory (sym y.kind ∙ kind) ∙ w.kind) b.right))
      where
        lender : (y : ReachedAs st' v) → IsRow st' v → Through st p v → FirstLender st' n y.by.lender
        lender y v' w = pick (true-or-false (some (R' v).request))
          where
            l : ℕ
            l = y.by.lender

            -- it bears nothing: it is the caller's own
            own : (R' v).request ≡ 0 → FirstLender st' n l
            own z =
                let no_end = subdirectory-no-end (R v).kind w.kind in
                let z₀ : (R v).request ≡ 0 = sym (request-kept st st' c s s' x v w.there v') ∙ z in
                let place : (R' v).place ≡ in_clist p = ap (λ r. r.place) (unmoved st st' c s s' x v w.there v' no_end z₀) ∙ w.place in
                let free : borne st' v ≡ false = borne-same st st' c s s' x v w.there v' ∙ (all v w.there).unlent w.kind z₀ in
                let same : p ≡ l = clist-apart p l (sym place ∙ first-has st' s' v l y.by.first v' free) in
                has-it n l unborne (ap (λ k. (R' k).request) way ∙ z) (mine ∙ ap in_clist same)

            pick : (some (R' v).request ≡ true) ⊎ (some (R' v).request ≡ false) → FirstLender st' n l
            pick (inl b) = of-way n l unborne (ap (λ k. some (R' k).request) way ∙ b) (subst (λ k. FirstLender st' k l) (sym way) y.by.first)
            pick (inr b) = own (none-zero (R' v).request b)

-- ---- a new row
new-reach : (st st' : State) (c : Call) (s : Sound st) (s' : Sound st') → Effect st c st' → ((n : ℕ) → IsRow st n → Law st n) → (n : ℕ) (r : Row) → Newly st c n r → row_of st'.rows n ≡ r → IsRow st' n
    → is_node r.place ≡ false → is_end r.kind ≡ false → ReachedAs st' n
unfolding copy_of port_end copy_lent item_row in_node
new-reach st st' c s s' x all n r (held p e a) is t' o k =
    ⊎_elim (went st st' c s s' x all n p e a t' is) (λ h. at-prime st st' c s s' x all n p e a t' is (none-zero _ h)) (true-or-false (some (process_at st.processes p).through))
new-reach st st' c s s' x all n r (registered p e a) is t' o k = clash (active-node st s.placed p a.caller) o
new-reach st st' c s s' x all n r (client p e a) is t' o k = clash end-kinds.0 k
new-reach st st' c s s' x all n r (server p e a) is t' o k = clash end-kinds.1 k
new-reach st st' c s s' x all n r (lent-copied p d is a n' i m g l) eq t' o k =
    copy-reach st st' c s s' x all n i.row t' (ap (λ r. r.source) eq) (ap (λ r. some r.request) eq ∙ pos-some st.next (next-some st s.numbers)) (ap (λ r. r.kind) eq) (ap (λ r. r.object) eq)
    (lendable-there st p d i g) (ap is_node (item-held st p d i g) ∙ clist-not-node p) k

reach-law : (fs : List Form) → RowLaw fs Law
unfolding with_place
reach-law fs =
    record {
      opened = λ text rest e n t.
          record { unlent = (unlent-law fs).opened text rest e n t; reach = λ o k. clash (opened-text text rest fs e n t).node o };
      old = λ st st' c s s' x all n t t'.
          record {
            unlent = (unlent-law fs).old st st' c s s' x (λ m u. (all m u).unlent) n t t';
            reach = λ o k.
                old-reach st st' c s s' x all n t t' (sym (node-as-before st st' c s x n t t') ∙ o) (sym (ap is_end (same-but-place st st' c s x n t t' (λ r. r.kind) (λ p r. refl))) ∙ k);
          };
      new = λ st st' c s s' x all n t' w.
          record {
            unlent = (unlent-law fs).new st st' c s s' x (λ m u. (all m u).unlent) n t' w;
            reach = λ o k. new-reach st st' c s s' x all n (row_of st'.rows n) w refl t' o k;
          };
    }

pub reach-of-rows : ReachOfRows
unfolding ReachOfRows
reach-of-rows fs log st x n t o e =
    let s = session-sound fs log st x in
    (((every-row fs Law (reach-law fs) log st x n t).reach o e).by, λ p u f. first-has st s n p f t (sym (lent_is st s n e) ∙ u))

-- ---- rows come into nodes by register alone
pub only-register-widens : OnlyRegisterWidens
unfolding OnlyRegisterWidens
only-register-widens st st' c h k other n t e =
    let s = sound-open st h in
    ⊎_elim (λ y. y) (λ y. absurd (by c y other)) ((step-moves st st' c s k).arrives n t)
  where
    by : (c : Call) → Arrives st n (row_of st'.rows n) c → ((p e : ℕ) → c ≡ Register p e → ⊥) → ⊥
    by c (a-held p d y) u = clash e (ap is_node y.place ∙ clist-not-node p)
    by c (a-registered p d y) u = u p d refl
    by c (a-client p d z l y) u = clash e (ap is_node l ∙ clist-not-node p)
    by c (a-server p d z l y) u = clash e (ap is_node l ∙ clist-not-node (row_of st.rows d).object)
    by c (a-copied p d is y) u = clash e (ap is_node y.place ∙ system-no-node)
    by c (a-lent p d is y) u = clash e (ap is_node y.place ∙ system-no-node)
    by c (a-fetched p v y) u = clash e (ap is_node y.place ∙ clist-not-node p)
    by c (a-returned c' y) u = clash e (ap is_node y.place ∙ clist-not-node _)
