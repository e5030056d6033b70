-- Closing, and the ends on loan: what the requests of the tables list after it is what the history leaves on loan.
use Prim.Native.Nat.{ℕ}
use mathlib.Core.Bool.{Bool, true, false, not, cond, ◌&&◌, not-not}
use mathlib.Core.List.{List, [], ◌∷◌, ◌++◌, map}
use mathlib.Core.Path.{◌≡◌, refl, sym, ap, ◌∙◌}
use Rattle.rows.specs.declared.Row.{Row}
use Rattle.rows.specs.declared.Request.{Request}
use Rattle.std.specs.Prelude.{if◌then◌else◌}
use Rattle.rows.specs.Lists.{filter, all, any, rises, member, some, nonzero}
use Rattle.rows.specs.Codes.{is_end}
use Rattle.rows.specs.Tables.{State, no_request, row_of, request_of, numbers, marked, bears}
use Rattle.rows.specs.Sound.{same, requests_rise}
use Rattle.rows.proofs.Bools.{and_l, and_r, and-rf, and-true}
use Rattle.rows.proofs.Keyed.{first_key}
use Rattle.tables.proofs.Picked.{all_found}
use Rattle.tables.proofs.Sound.{Sound}
use Rattle.rows.proofs.RowSources.{end-there}
use Rattle.rows.proofs.Lists.{filter-filter}
use Rattle.tables.proofs.SoundFacts.{same-eq, eq-same}
use Rattle.rows.proofs.Agree.{keys_kept}
use Rattle.closing.specs.Closing.{listed_in, leaves, trimmed, remaining, settled, closes, closing, close_request, is_end_of, close_port, is_row, drop_row}
use Rattle.rows.specs.Setters.{with_place}
use Rattle.closing.proofs.Lookups.{remaining-keys, returned-keeps, left-keys, row-after}
use Rattle.history.specs.History.{History}
use Rattle.history.specs.Notes.{stands, loans_left, note_drop, note_close, note_revoke}
use Rattle.history.proofs.Inv.{Inv, Lends, ends_listed, loans_in}
use Rattle.history.proofs.LoansKept.{Settles}
use Rattle.history.proofs.Find.{in-tables}
use Rattle.history.proofs.Loans.{closed_number, shut, stays_lent, left-closed, left_open, shut-first, end-listed, open-numbers}

-- ---- rows that are left
kind-left : (g : List ℕ) (f : Request → Bool) (st : State) (e : ℕ) → member e g ≡ false → is_end (row_of (settled g f st).rows e).kind ≡ is_end (row_of st.rows e).kind
unfolding with_place
kind-left g f st e out = ap (λ r. is_end r.kind) (row-after g f st e out) ∙ returned-keeps (λ r. is_end r.kind) (λ p r. refl) f st.requests (row_of st.rows e)

-- ---- items that leave
nonzero-map : (t : ℕ → Bool) (ns : List ℕ) → nonzero (map (λ e. if t e then 0 else e) ns) ≡ filter (λ e. not (t e)) (nonzero ns)
unfolding nonzero filter
nonzero-map t [] = refl
nonzero-map t (e ∷ ns) = pick (nonzero-map t ns) (t e) refl (some e) refl
  where
    pick : filter some (map (λ e. if t e then 0 else e) ns) ≡ filter (λ e. not (t e)) (filter some ns) → (b : Bool) → t e ≡ b → (c : Bool) → some e ≡ c
        → filter some (cond b 0 e ∷ map (λ e. if t e then 0 else e) ns) ≡ filter (λ e. not (t e)) (cond c (e ∷ filter some ns) (filter some ns))
    pick ih true u true v = unfold some in (rw u ih)
    pick ih true u false v = unfold some in ih
    pick ih false u true v = rw (u, v) (ap (λ k. e ∷ k) ih)
    pick ih false u false v = rw v ih

-- ---- the history h, in which the rows g stand no longer and the requests that pass f are closed
module _ (h : History) (st : State) (g : List ℕ) (f : Request → Bool) (stand : (e : ℕ) → is_end (row_of st.rows e).kind ≡ true → stands h e ≡ not (member e g)) where
  abbrev as_closed : Request → Bool
  as_closed v = same (closed_number h v.number) (f v)

  shut-lists : (e : ℕ) → is_end (row_of st.rows e).kind ≡ true → (vs : List Request) → all as_closed vs ≡ true → shut h (loans_in st.rows vs) e ≡ listed_in f vs e
  unfolding loans_in listed_in any all
  shut-lists e end [] c = unfold shut any in refl
  shut-lists e end (v ∷ vs) c =
      shut-first h v.number (ends_listed st.rows v) (loans_in st.rows vs) e
      ∙ rw (eq-same (closed_number h v.number) (f v) (and_l (as_closed v) (all as_closed vs) c), end-listed st.rows e end v, shut-lists e end vs (and_r (as_closed v) (all as_closed vs) c)) refl

  -- the ends that a request that stays open still lists
  ends-left : (v : Request) (vs : List Request) → all as_closed vs ≡ true → ends_listed (settled g f st).rows (trimmed f g vs v) ≡ filter (stays_lent h (loans_in st.rows vs)) (ends_listed st.rows v)
  unfolding ends_listed trimmed
  ends-left v vs c =
      ap (filter (λ e. is_end (row_of (settled g f st).rows e).kind)) (nonzero-map (leaves f g vs) v.items)
      ∙ filter-filter (λ e. is_end (row_of (settled g f st).rows e).kind) (λ e. not (leaves f g vs e)) both (λ e. sym (each_item e)) (nonzero v.items)
      ∙ sym (filter-filter (stays_lent h (loans_in st.rows vs)) (λ e. is_end (row_of st.rows e).kind) both (λ e. refl) (nonzero v.items))
    where
      both : ℕ → Bool
      both e = is_end (row_of st.rows e).kind && stays_lent h (loans_in st.rows vs) e

      each_item : (e : ℕ) → not (leaves f g vs e) && is_end (row_of (settled g f st).rows e).kind ≡ is_end (row_of st.rows e).kind && stays_lent h (loans_in st.rows vs) e
      each_item e = pick (is_end (row_of st.rows e).kind) refl (member e g) refl
        where
          pick : (b : Bool) → is_end (row_of st.rows e).kind ≡ b → (m : Bool) → member e g ≡ m
              → not (leaves f g vs e) && is_end (row_of (settled g f st).rows e).kind ≡ b && stays_lent h (loans_in st.rows vs) e
          pick true z true u = unfold leaves stays_lent in rw (stand e z, u) refl
          pick true z false u = unfold leaves stays_lent in rw (stand e z, u, kind-left g f st e u, z, shut-lists e z vs c) (and-true (not (listed_in f vs e)))
          pick false z true u = unfold leaves in rw u refl
          pick false z false u = unfold leaves in rw (u, kind-left g f st e u, z) (and-rf (not (listed_in f vs e)) false refl)

  loans-left : (vs : List Request) → all as_closed vs ≡ true → loans_in (settled g f st).rows (remaining f g vs) ≡ loans_left h (loans_in st.rows vs)
  unfolding loans_in remaining all trimmed
  loans-left [] c = unfold loans_left in refl
  loans-left (v ∷ vs) c = pick (loans-left vs (and_r (as_closed v) (all as_closed vs) c)) (f v) (eq-same (closed_number h v.number) (f v) (and_l (as_closed v) (all as_closed vs) c))
    where
      pick : loans_in (settled g f st).rows (remaining f g vs) ≡ loans_left h (loans_in st.rows vs) → (b : Bool) → closed_number h v.number ≡ b
          → loans_in (settled g f st).rows (cond b (remaining f g vs) (trimmed f g vs v ∷ remaining f g vs))
          ≡ loans_left h (map (λ e. record { request = v.number; lent = e }) (ends_listed st.rows v) ++ loans_in st.rows vs)
      pick ih true u = ih ∙ sym (left-closed h v.number (ends_listed st.rows v) (loans_in st.rows vs) u)
      pick ih false u = rw (ends-left v vs (and_r (as_closed v) (all as_closed vs) c), ih) (sym (left_open h v.number (ends_listed st.rows v) (loans_in st.rows vs) u))

-- ---- the requests that stay open
remaining-numbers : (f : Request → Bool) (g : List ℕ) (vs : List Request) → rises (λ v. v.number) vs ≡ true → (n : ℕ)
    → member n (map (λ v. v.number) vs) ≡ true → member n (map (λ v. v.number) (remaining f g vs)) ≡ not (f (request_of vs n))
unfolding request_of
remaining-numbers f g vs u n t =
    ap (member n) (remaining-keys f g (λ v. v.number) (λ is v. refl) vs) ∙ keys_kept (λ v. v.number) no_request (λ v. not (f v)) vs u n
    ∙ ap (λ b. b && not (f (request_of vs n))) t

-- ---- the theorem: h before a closing, h' after it
module _ (h h' : History) (st : State) (g : List ℕ) (f : Request → Bool) (i : Inv h st) (up : requests_rise st.requests ≡ true)
    (i' : Inv h' (settled g f st)) (asked : h'.requests ≡ h.requests) where
  pub stands-left : (e : ℕ) → stands h' e ≡ member e (numbers st.rows) && not (member e g)
  stands-left e = sym (in-tables h' (settled g f st) i' e) ∙ left-keys g f st e

  pub closed-now : (n : ℕ) → member n (map (λ v. v.number) st.requests) ≡ true → closed_number h' n ≡ f (request_of st.requests n)
  unfolding settled
  closed-now n t =
      sym (not-not (closed_number h' n))
      ∙ ap not
      (
      ap (λ b. b && not (closed_number h' n)) (sym (ap (λ vs. member n (map (λ v. v.number) vs)) asked ∙ and_l _ (not (closed_number h n)) (sym (open-numbers h st i n) ∙ t)))
      ∙ sym (open-numbers h' (settled g f st) i' n) ∙ remaining-numbers f g st.requests (unfold requests_rise in up) n t
      )
      ∙ not-not (f (request_of st.requests n))

  closing-lends : loans_in (settled g f st).rows (settled g f st).requests ≡ loans_left h' (loans_in st.rows st.requests)
  closing-lends = ap (loans_in (settled g f st).rows) still_open ∙ loans-left h' st g f end-left st.requests as-closed
    where
      still_open : (settled g f st).requests ≡ remaining f g st.requests
      still_open = unfold settled in refl

      end-left : (e : ℕ) → is_end (row_of st.rows e).kind ≡ true → stands h' e ≡ not (member e g)
      end-left e end = stands-left e ∙ ap (λ b. b && not (member e g)) (end-there st.rows e end)

      as-closed : all (λ v. same (closed_number h' v.number) (f v)) st.requests ≡ true
      as-closed =
          all_found (λ v. v.number) no_request (λ v. same (closed_number h' v.number) (f v)) st.requests (unfold requests_rise in up)
          (λ n t. same-eq _ _ (ap (closed_number h') (first_key (λ v. v.number) no_request st.requests n t) ∙ (unfold request_of in closed-now n t)))

  pub settled-settles : Lends h st → h'.loans ≡ h.loans → Settles h' (settled g f st)
  settled-settles l same = closing-lends ∙ ap (loans_left h') (l.lends ∙ sym same)

-- ---- the calls that close
module _ (h : History) (st : State) (i : Inv h st) (l : Lends h st) (s : Sound st) where
  closing-settles : (h' : History) (seed : Row → Bool) (qs : List ℕ) → h'.requests ≡ h.requests → h'.loans ≡ h.loans → Inv h' (closing seed qs st) → Settles h' (closing seed qs st)
  unfolding closing
  closing-settles h' seed qs asked same i' =
      let g = marked seed st.rows in settled-settles h h' st g (closes qs g) i s.numbers.requests-rise i' asked l same

  -- request v of the tables is closed, and q is noted as closed
  pub request-settles : (q v : ℕ) → Inv (note_revoke q h) (close_request v st) → Settles (note_revoke q h) (close_request v st)
  unfolding note_revoke close_request
  request-settles q v = closing-settles (note_revoke q h) (bears v) (v ∷ []) refl refl

  pub drop-settles : (e : ℕ) → Inv (note_drop e h) (drop_row e st) → Settles (note_drop e h) (drop_row e st)
  unfolding note_drop drop_row
  drop-settles e = closing-settles (note_drop e h) (is_row e) [] refl refl

  pub close-settles : (c : ℕ) → Inv (note_close c h) (close_port c st) → Settles (note_close c h) (close_port c st)
  unfolding note_close close_port
  close-settles c = closing-settles (note_close c h) (is_end_of c) [] refl refl
