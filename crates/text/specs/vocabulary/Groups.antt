-- Groups of two numbers as the code keeps them, flags and padded runs; and lines that have a head, groups and an end.
use Rattle.std.specs.Prelude.{ℕ, suc, ◌+◌, ◌≡◌, Bool, true, false, ◌&&◌, not, List, map, eqb, length, get_or, if◌then◌else◌}
use Rattle.rows.specs.Lists.{all, distinct, pad}
use Rattle.text.specs.declared.Read.{Read}
use Rattle.text.specs.declared.Head.{Head}
use Rattle.text.specs.declared.Groups.{Groups}
use Rattle.text.specs.declared.Seen.{Seen}
use Rattle.text.specs.declared.Reading.{Reading}
use Rattle.text.specs.Patterns.{form}
use Rattle.text.specs.CallLines.{Group, Gathered, group_of, item_of, item_ranged, pair_ranged, judged, judged_pairs, ask_form, comes_all_form, comes_form, simple_form, answer_form, chain_form}
use Rattle.text.specs.vocabulary.Sizes.{GROUPS}

-- the groups of their parts
abbrev pub groups_of : Seen → List ℕ → List ℕ → Groups
groups_of s firsts seconds =
    record {
      next = s.next;
      count = s.count;
      items = s.items;
      pairs = s.pairs;
      apart = s.apart;
      firsts = firsts;
      seconds = seconds;
    }

-- what is seen with one more group, as its form was read; whether its first number stands before it
unfoldable pub seen_with : Seen → Read → Bool → Seen
seen_with s f named =
    record {
      next = f.next;
      count = s.count + 1;
      items = s.items && item_ranged (item_of (group_of f));
      pairs = s.pairs && pair_ranged (group_of f);
      apart = s.apart && not named;
    }

unfoldable pub groups_from : Gathered → Groups
groups_from x =
    record {
      next = x.next;
      count = length x.groups;
      items = all (λ y. item_ranged (item_of y)) x.groups;
      pairs = all pair_ranged x.groups;
      apart = distinct (map (λ y. y.first) x.groups);
      firsts = pad 0 GROUPS (map (λ y. y.first) x.groups);
      seconds = pad 0 GROUPS (map (λ y. y.second) x.groups);
    }

-- what a line reads as if no call before these is read; if it has no groups; and any line
abbrev pub answer_or_chain : List ℕ → Reading
answer_or_chain s = answer_form s (chain_form s)

abbrev pub other_call : List ℕ → Reading
other_call s = comes_form s (simple_form s (answer_or_chain s))

abbrev pub groups_form : List ℕ → Reading
groups_form s = ask_form s (comes_all_form s (other_call s))

-- ---- the head
-- the byte after a position is a `c`
abbrev pub c_next : List ℕ → ℕ → Bool
c_next s at = eqb (get_or s (suc at) 0) 99

abbrev pub ask_head : Read → Head
ask_head f = record { good = f.good; next = f.next; asks = true; caller = f.b; port = f.c }

abbrev pub comes_all_head : Read → Head
comes_all_head f = record { good = f.good; next = f.next; asks = false; caller = 0; port = 0 }

-- no form is both: behind the bracket an ask has a digit, a comesall a `c`
unfoldable pub head_of : List ℕ → ℕ → Head
head_of s at = if c_next s at then comes_all_head (form s at "(comesall") else ask_head (form s at "(# ask #")

-- what head and groups read as
abbrev pub head_judged : Head → List Group → Reading
head_judged h xs = if h.asks then judged h.caller h.port (map item_of xs) else judged_pairs xs

-- if g are the groups x, r is what head and groups read as if the head was read and the line ended, else another call
abbrev pub JudgesGroups : List ℕ → Head → Groups → Bool → Reading → Type 0
JudgesGroups s h g ended r =
    (x : Gathered) → g ≡ groups_from x → r ≡ (if h.good && ended then head_judged h x.groups else other_call s)
