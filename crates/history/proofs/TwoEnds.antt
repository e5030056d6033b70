-- On sound tables a client end's port has exactly two ends, each with a process or the system.
use Prim.Native.Nat.{ℕ, suc, ◌<◌}
use native.Mathlib.Omega.{arith}
use mathlib.Core.Bool.{Bool, true, false, cond, ◌&&◌, ◌||◌}
use mathlib.Core.List.{List, [], ◌∷◌, map}
use mathlib.Core.Path.{◌≡◌, refl, sym, ap, ◌∙◌}
use mathlib.Core.Logic.{⊎_elim}
use lib.Dec.{eqb}
use borrow.Author.Tests.{eqb-true, eq-eqb, ne_eqb}
use Rattle.rows.specs.declared.Row.{Row}
use Rattle.rows.specs.declared.Process.{Process}
use Rattle.rows.specs.Lists.{filter, first_with, rises, member}
use Rattle.rows.specs.Codes.{is_client, is_server, is_end, is_node, is_clist, is_system, owner_of}
use Rattle.rows.specs.Tables.{State, no_row, row_of, numbers, is_listed}
use Rattle.rows.specs.Sound.{object_in_range, place_in_range, places_in_range, is_paired_with, rows_rise}
use Rattle.rows.proofs.Bools.{clash, bool_eq, and_l, and_r, and_i, or_cases, or_l, or_r, or-fl, or-fr, eqb-sym-f}
use Rattle.rows.proofs.Keyed.{all_first, rises-rest, rises-older, rises-fresh}
use Rattle.rows.proofs.Agree.{agree-found, filter-agree}
use Rattle.tables.proofs.Sound.{Sound}
use Rattle.rows.proofs.RowSources.{end-there}
use Rattle.tables.proofs.SoundFacts.{row_number, row-object, client-paired, client-object, server-object}
use Rattle.closing.proofs.Facts.{end-at}
use Rattle.history.specs.Demand3.{ends_of, TwoEnds}

-- ---- what is picked by key from a list whose keys rise
module _ {A : Type 0} (key : A → ℕ) (none : A) where
  pick-none : (xs : List A) (a : ℕ) → member a (map key xs) ≡ false → filter (λ x. eqb (key x) a) xs ≡ []
  unfolding filter member
  pick-none [] a m = refl
  pick-none (x ∷ xs) a m = rw (eqb-sym-f a (key x) (or-fl (eqb a (key x)) (member a (map key xs)) m)) (pick-none xs a (or-fr (eqb a (key x)) (member a (map key xs)) m))

  pick-one : (xs : List A) (a : ℕ) → rises key xs ≡ true → member a (map key xs) ≡ true → filter (λ x. eqb (key x) a) xs ≡ first_with key none xs a ∷ []
  unfolding filter member first_with
  pick-one [] a up m = clash m refl
  pick-one (x ∷ xs) a up m = pick (pick-one xs a (rises-rest key x xs up)) (eqb (key x) a) refl
    where
      pick : (member a (map key xs) ≡ true → filter (λ x. eqb (key x) a) xs ≡ first_with key none xs a ∷ []) → (b : Bool) → eqb (key x) a ≡ b
          → cond b (x ∷ filter (λ x. eqb (key x) a) xs) (filter (λ x. eqb (key x) a) xs) ≡ cond b x (first_with key none xs a) ∷ []
      pick ih true q = ap (λ l. x ∷ l) (pick-none xs a (ap (λ n. member n (map key xs)) (sym (eqb-true (key x) a q)) ∙ rises-fresh key x xs up))
      pick ih false q = ih (rw (eqb-sym-f (key x) a q) at m)

  -- two keys, the greater first
  pick_two : (xs : List A) (a b : ℕ) → a < b → rises key xs ≡ true → member a (map key xs) ≡ true → member b (map key xs) ≡ true
      → filter (λ x. eqb (key x) a || eqb (key x) b) xs ≡ first_with key none xs b ∷ first_with key none xs a ∷ []
  unfolding filter member first_with
  pick_two [] a b l up m n = clash m refl
  pick_two (x ∷ xs) a b l up m n = pick (pick_two xs a b l (rises-rest key x xs up)) (eqb (key x) a) refl (eqb (key x) b) refl
    where
      rest : eqb (key x) b ≡ true → filter (λ x. eqb (key x) a || eqb (key x) b) xs ≡ filter (λ x. eqb (key x) a) xs
      rest q = same xs (ap (λ n. member n (map key xs)) (sym (eqb-true (key x) b q)) ∙ rises-fresh key x xs up)
        where
          same : (ys : List A) → member b (map key ys) ≡ false → filter (λ x. eqb (key x) a || eqb (key x) b) ys ≡ filter (λ x. eqb (key x) a) ys
          same [] m = refl
          same (y ∷ ys) m = rw (eqb-sym-f b (key y) (or-fl (eqb b (key y)) (member b (map key ys)) m), same ys (or-fr (eqb b (key y)) (member b (map key ys)) m)) (one (eqb (key y) a))
            where
              one : (c : Bool) → cond (c || false) (y ∷ filter (λ x. eqb (key x) a) ys) (filter (λ x. eqb (key x) a) ys) ≡ cond c (y ∷ filter (λ x. eqb (key x) a) ys) (filter (λ x. eqb (key x) a) ys)
              one true = refl
              one false = refl

      pick : (member a (map key xs) ≡ true → member b (map key xs) ≡ true → filter (λ x. eqb (key x) a || eqb (key x) b) xs ≡ first_with key none xs b ∷ first_with key none xs a ∷ [])
          → (c : Bool) → eqb (key x) a ≡ c → (d : Bool) → eqb (key x) b ≡ d
          → cond (c || d) (x ∷ filter (λ x. eqb (key x) a || eqb (key x) b) xs) (filter (λ x. eqb (key x) a || eqb (key x) b) xs)
          ≡ cond d x (first_with key none xs b) ∷ cond c x (first_with key none xs a) ∷ []
      pick ih true q d r =
          let z = eqb-true (key x) a q in
          let ne : eqb (key x) b ≡ false = ne_eqb (key x) b (λ w. omega arith) in
          let there : member b (map key xs) ≡ true = rw (eqb-sym-f (key x) b ne) at n in
          absurd (let lt = rises-older key x xs up b there in omega arith)
      pick ih false q true r = ap (λ l. x ∷ l) (rest r ∙ pick-one xs a (rises-rest key x xs up) (rw (eqb-sym-f (key x) a q) at m))
      pick ih false q false r = ih (rw (eqb-sym-f (key x) a q) at m) (rw (eqb-sym-f (key x) b r) at n)

-- ---- the number of an end and its port
data EndOf (r : Row) : Type 0 where
  client-end : is_client r.kind ≡ true → r.object ≡ r.number → EndOf r
  server-end : is_server r.kind ≡ true → suc r.object ≡ r.number → EndOf r

end_of : (ps : List Process) (r : Row) → object_in_range ps r ≡ true → is_end r.kind ≡ true → EndOf r
unfolding is_end
end_of ps r o k = ⊎_elim (λ c. client-end c (client-object ps r o c)) (λ c. server-end c (server-object ps r o c)) (or_cases (is_client r.kind) (is_server r.kind) k)

-- ---- both ends
module _ (st : State) (s : Sound st) where
  end-of-row : (n : ℕ) → member n (numbers st.rows) ≡ true → is_end (row_of st.rows n).kind ≡ true → EndOf (row_of st.rows n)
  end-of-row n t k = end_of st.processes (row_of st.rows n) (row-object st s.rows n t) k

  -- an end is with a process or the system
  end-held : (n : ℕ) → member n (numbers st.rows) ≡ true → is_end (row_of st.rows n).kind ≡ true → is_clist (row_of st.rows n).place || is_system (row_of st.rows n).place ≡ true
  unfolding row_of numbers places_in_range place_in_range
  end-held n t k =
      let r = row_of st.rows n in
      pick (is_node r.place) (end-at st s n t k).no_node (is_clist r.place) (is_listed st.processes (owner_of r.place)) (is_system r.place)
      (all_first (λ r. r.number) no_row (place_in_range st.processes) st.rows n s.rows.places-in-range t)
    where
      pick : (a : Bool) → a ≡ false → (b c d : Bool) → a || ((b && c) || d) ≡ true → b || d ≡ true
      pick true z b c d e = clash refl z
      pick false z true c d e = refl
      pick false z false c d e = e

  module _ (c : ℕ) (t : member c (numbers st.rows) ≡ true) (k : is_end (row_of st.rows c).kind ≡ true) (o : (row_of st.rows c).object ≡ c) where
    client : is_client (row_of st.rows c).kind ≡ true
    client = pick (end-of-row c t k)
      where
        pick : EndOf (row_of st.rows c) → is_client (row_of st.rows c).kind ≡ true
        pick (client-end h e) = h
        pick (server-end h e) = absurd (let n = row_number st.rows c t in omega (arith, e, o, n))

    server-kind : is_end (row_of st.rows (suc c)).kind ≡ true
    unfolding is_paired_with
    server-kind =
        and_l (is_end (row_of st.rows (suc c)).kind)
        (eqb (row_of st.rows c).object (row_of st.rows (suc c)).object && eqb (row_of st.rows c).source (row_of st.rows (suc c)).source) (client-paired st s.rows c client)

    server-port : (row_of st.rows (suc c)).object ≡ c
    unfolding is_paired_with
    server-port =
        let h = and_r (is_end (row_of st.rows (suc c)).kind)
        (eqb (row_of st.rows c).object (row_of st.rows (suc c)).object && eqb (row_of st.rows c).source (row_of st.rows (suc c)).source) (client-paired st s.rows c client) in
        sym (eqb-true (row_of st.rows c).object (row_of st.rows (suc c)).object (and_l _ (eqb (row_of st.rows c).source (row_of st.rows (suc c)).source) h)) ∙ o

    server-there : member (suc c) (numbers st.rows) ≡ true
    server-there = end-there st.rows (suc c) server-kind

    server : is_server (row_of st.rows (suc c)).kind ≡ true
    server = pick (end-of-row (suc c) server-there server-kind)
      where
        pick : EndOf (row_of st.rows (suc c)) → is_server (row_of st.rows (suc c)).kind ≡ true
        pick (client-end h e) = absurd (let n = row_number st.rows (suc c) server-there in omega (arith, e, server-port, n))
        pick (server-end h e) = h

    -- the ends of the port are the rows numbered c and c + 1
    is-end-of : (n : ℕ) → member n (numbers st.rows) ≡ true
        → is_end (row_of st.rows n).kind && eqb (row_of st.rows n).object c ≡ eqb (row_of st.rows n).number c || eqb (row_of st.rows n).number (suc c)
    is-end-of n u = bool_eq _ _ there back
      where
        there : is_end (row_of st.rows n).kind && eqb (row_of st.rows n).object c ≡ true → eqb (row_of st.rows n).number c || eqb (row_of st.rows n).number (suc c) ≡ true
        there h =
            pick (end-of-row n u (and_l (is_end (row_of st.rows n).kind) (eqb (row_of st.rows n).object c) h))
            (eqb-true (row_of st.rows n).object c (and_r (is_end (row_of st.rows n).kind) (eqb (row_of st.rows n).object c) h))
          where
            pick : EndOf (row_of st.rows n) → (row_of st.rows n).object ≡ c → eqb (row_of st.rows n).number c || eqb (row_of st.rows n).number (suc c) ≡ true
            pick (client-end h e) z = or_l _ (eqb (row_of st.rows n).number (suc c)) (eq-eqb (row_of st.rows n).number c (sym e ∙ z))
            pick (server-end h e) z = or_r (eqb (row_of st.rows n).number c) _ (eq-eqb (row_of st.rows n).number (suc c) (sym e ∙ ap suc z))

        at : (m : ℕ) → is_end (row_of st.rows m).kind ≡ true → (row_of st.rows m).object ≡ c → (row_of st.rows n).number ≡ m
            → is_end (row_of st.rows n).kind && eqb (row_of st.rows n).object c ≡ true
        at m h z e =
            let q : n ≡ m = sym (row_number st.rows n u) ∙ e in
            and_i (is_end (row_of st.rows n).kind) (eqb (row_of st.rows n).object c) (ap (λ x. is_end (row_of st.rows x).kind) q ∙ h)
            (eq-eqb (row_of st.rows n).object c (ap (λ x. (row_of st.rows x).object) q ∙ z))

        back : eqb (row_of st.rows n).number c || eqb (row_of st.rows n).number (suc c) ≡ true → is_end (row_of st.rows n).kind && eqb (row_of st.rows n).object c ≡ true
        back h =
            ⊎_elim (λ e. at c k o (eqb-true (row_of st.rows n).number c e)) (λ e. at (suc c) server-kind server-port (eqb-true (row_of st.rows n).number (suc c) e))
            (or_cases (eqb (row_of st.rows n).number c) (eqb (row_of st.rows n).number (suc c)) h)

    ends-are : ends_of c st.rows ≡ row_of st.rows (suc c) ∷ row_of st.rows c ∷ []
    unfolding ends_of row_of numbers rows_rise
    ends-are =
        filter-agree _ _ st.rows
        (agree-found (λ r. r.number) no_row (λ r. is_end r.kind && eqb r.object c) (λ r. eqb r.number c || eqb r.number (suc c)) st.rows s.numbers.rows-rise is-end-of)
        ∙ pick_two (λ r. r.number) no_row st.rows c (suc c) (omega arith) s.numbers.rows-rise t server-there

    pub two_ends : TwoEnds st.rows c
    two_ends =
        record {
          client = row_of st.rows c;
          server = row_of st.rows (suc c);
          exactly = ends-are;
          client_number = row_number st.rows c t;
          client_kind = client;
          client_held = end-held c t k;
          server_number = row_number st.rows (suc c) server-there;
          server_kind = server;
          server_held = end-held (suc c) server-there server-kind;
        }
