-- What sound tables tell of one row and of one open request, each found by its number.
use Prim.Native.Nat.{ℕ}
use mathlib.Core.Bool.{true, false, ◌&&◌}
use mathlib.Core.List.{List, map}
use mathlib.Core.Path.{◌≡◌, refl, sym, ap, ◌∙◌}
use mathlib.Core.Logic.{⊎_elim}
use lib.Dec.{ltb, eqb}
use borrow.Author.Tests.{eqb-true}
use Rattle.rows.specs.declared.Row.{Row}
use Rattle.rows.specs.declared.Request.{Request}
use Rattle.rows.specs.Lists.{all, member, some, nonzero}
use Rattle.rows.specs.Codes.{is_end, is_client, is_node}
use Rattle.rows.specs.Tables.{State, no_row, no_request, row_of, request_of, numbers, lists}
use Rattle.rows.specs.Sound.{is_opening, is_registered, is_held, is_port_end, is_lent_copy, copy_listed, copies_listed, may_be_listed, items_lent, source_of, via_of}
use Rattle.rows.proofs.Bools.{false_of, clash, and_l, and_r, not_t, or_cases, all-at, zero-none}
use Rattle.rows.proofs.Keyed.{first_key, first-there, all_first}
use Rattle.tables.proofs.Sound.{Sound}
use Rattle.rows.proofs.Lists.{member-nonzero}
use Rattle.rows.proofs.Places.{copied-no-end}
use Rattle.rows.proofs.RowSources.{Shape, opening, registered, held, port-end, lent-copy}
use Rattle.tables.proofs.Standing.{standing-shape}
use Rattle.tables.proofs.SoundFacts.{row_number}
use Rattle.closing.specs.vocabulary.Marks.{Stands}

abbrev pub IsOpen : State → ℕ → Type 0
IsOpen st q = member q (map (λ v. v.number) st.requests) ≡ true

-- ---- by the shape of a row
-- an end of a port: in no node, with no second source and no request
pub record EndFacts (r : Row) : Type 0 where
  pub no_node : is_node r.place ≡ false
  pub no-via : r.via ≡ 0
  pub no-request : r.request ≡ 0

end-shape : (vs : List Request) (rs : List Row) (r : Row) → is_end r.kind ≡ true → Shape vs r (source_of rs r) (via_of rs r) → is_port_end r (source_of rs r) ≡ true
unfolding is_opening is_registered is_held is_lent_copy
end-shape vs rs r k (opening h) = clash k (copied-no-end r.kind (search (and_l, and_r)))
end-shape vs rs r k (registered h) = clash k (copied-no-end r.kind (search (and_l, and_r)))
end-shape vs rs r k (held h) = clash k (copied-no-end r.kind (search (and_l, and_r)))
end-shape vs rs r k (port-end h) = h
end-shape vs rs r k (lent-copy h) = clash k (copied-no-end r.kind (search (and_l, and_r)))

end-facts : (rs : List Row) (r : Row) → is_port_end r (source_of rs r) ≡ true → EndFacts r
unfolding is_port_end
end-facts rs r h =
    record {
      no_node = not_t (is_node r.place) (search (and_l, and_r));
      no-via = eqb-true r.via 0 (search (and_l, and_r));
      no-request = eqb-true r.request 0 (search (and_l, and_r));
    }

-- a lent copy: no end, and its second source is the port of its request, counted as its client end
pub record CopyFacts (vs : List Request) (rs : List Row) (r : Row) : Type 0 where
  pub no_end : is_end r.kind ≡ false
  pub via-client : is_client (row_of rs r.via).kind ≡ true
  pub through-port : (request_of vs r.request).port ≡ r.via

copy-facts : (vs : List Request) (rs : List Row) (r : Row) → some r.request ≡ true → Shape vs r (source_of rs r) (via_of rs r) → CopyFacts vs rs r
unfolding is_opening is_registered is_held is_port_end is_lent_copy
copy-facts vs rs r k (opening h) = clash k (zero-none r.request (search (and_l, and_r)))
copy-facts vs rs r k (registered h) = clash k (zero-none r.request (search (and_l, and_r)))
copy-facts vs rs r k (held h) = clash k (zero-none r.request (search (and_l, and_r)))
copy-facts vs rs r k (port-end h) = clash k (zero-none r.request (search (and_l, and_r)))
copy-facts vs rs r k (lent-copy h) =
    record {
      no_end = copied-no-end r.kind (search (and_l, and_r));
      via-client = search (and_l, and_r);
      through-port = eqb-true (request_of vs r.request).port r.via (search (and_l, and_r));
    }

-- ---- of the row n and the open request q, by look-up alone
module _ (st : State) where
  pub request-number : (q : ℕ) → IsOpen st q → (request_of st.requests q).number ≡ q
  unfolding request_of
  request-number q t = first_key (λ v. v.number) no_request st.requests q t

  pub lists-open : (e q : ℕ) → lists e (request_of st.requests q) ≡ true → IsOpen st q
  unfolding request_of lists no_request member
  lists-open e q t = first-there (λ v. v.number) no_request (lists e) (false_of _ (λ u. clash (and_r (some e) false u) refl)) st.requests q t

-- and by soundness
module _ (st : State) (s : Sound st) where
  pub end-at : (n : ℕ) → Stands st n → is_end (row_of st.rows n).kind ≡ true → EndFacts (row_of st.rows n)
  end-at n t k = end-facts _ _ (end-shape _ _ _ k (standing-shape st s.numbers s.rows n t))

  pub copy_at : (n : ℕ) → Stands st n → some (row_of st.rows n).request ≡ true → CopyFacts st.requests st.rows (row_of st.rows n)
  copy_at n t k = copy-facts _ _ _ k (standing-shape st s.numbers s.rows n t)

  -- a copy is listed by the open request that it bears
  pub copy-listed : (n : ℕ) → Stands st n → some (row_of st.rows n).request ≡ true
      → lists n (request_of st.requests (row_of st.rows n).request) ≡ true
  unfolding copies_listed row_of copy_listed numbers
  copy-listed n t k = pick (all_first (λ r. r.number) no_row (copy_listed st.requests) st.rows n s.loans.copies-listed t)
    where
      r : Row
      r = row_of st.rows n

      v : Request
      v = request_of st.requests r.request

      pick : copy_listed st.requests r ≡ true → lists n v ≡ true
      pick e =
          ⊎_elim (λ z. clash k (zero-none r.request z))
          (λ w. ap (λ m. lists m v) (sym (row_number st.rows n t)) ∙ and_r (ltb r.request r.number) (lists r.number v) w)
          (or_cases (eqb r.request 0) (ltb r.request r.number && lists r.number v) e)

  -- what a request lists may be listed there
  pub listed-right : (q : ℕ) → IsOpen st q → (e : ℕ) → lists e (request_of st.requests q) ≡ true
      → may_be_listed (request_of st.requests q) (row_of st.rows e) ≡ true
  unfolding items_lent request_of lists
  listed-right q t e l =
      all-at (λ e. may_be_listed v (row_of st.rows e)) (nonzero v.items)
      (all_first (λ v. v.number) no_request (λ v. all (λ e. may_be_listed v (row_of st.rows e)) (nonzero v.items)) st.requests q s.loans.items-lent t)
      e (member-nonzero v.items e ∙ l)
    where
      v : Request
      v = request_of st.requests q
