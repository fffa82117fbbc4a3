-- All lists, and what is handed out.
--   Going, going-…     the invariant of the loop over the lists: what is left, from here, is what the whole gives; and its needs
--   lists-out, dcs-out   the buffers from the start on, as the lists that are held
--   written_got, written_stop   what a call hands back
use Rattle.std.specs.Prelude.{Ok, Err}
use mathlib.Core.Path.{◌≡◌, refl, sym, ap, ◌∙◌}
use mathlib.Core.List.{List, [], ◌∷◌, ◌++◌}
use Prim.Native.Nat.{ℕ, suc, ◌+◌, ◌-◌, ◌*◌, ◌/◌, ◌%◌, ◌≤◌, ◌<◌}
use native.Mathlib.Omega.{arith}
use lib.ListN.{length, get_or, drop}
use lib.Seq.{ext_get_or}
use Rattle.integers.specs.Lists.{tabulate, tabulate_from, overwrite}
use Rattle.integers.proofs.ListsLaws.{tabulate-length, tabulate-get_or}
use Rattle.refusal.specs.declared.Refusal.{Refusal}
use Rattle.scaling_lists_codes.specs.Syntax.{Reading, FactorList, Defaults, none, and_then, list_code, lists_from, scaling_list_data}
use Rattle.scaling_lists.specs.Answers.{entry_at, dc_at, ListsRead, written, Reads}
use Rattle.scaling_lists_taken.specs.Held.{held_at, held}
use Rattle.scaling_lists.specs.declared.held.Lists.{Lists}
use Rattle.scaling_lists.specs.Work.{one_more, lists_held}

pub record Going (lent : Defaults) (bytes : List ℕ) (h : Lists) (at j : ℕ) : Type 0 where
  pub within : j ≤ 20
  pub near : at ≤ 4226 * j
  pub left : lists_from (20 - j) lent bytes (lists_held j h) at ≡ scaling_list_data lent bytes

pub going_start : (lent : Defaults) (bytes : List ℕ) (h : Lists) → Going lent bytes h 0 0
unfolding scaling_list_data held tabulate tabulate_from
going_start lent bytes h = record { within = omega arith; near = omega arith; left = refl }

-- one list, and then the others
lists_step : (k : ℕ) (lent : Defaults) (bytes : List ℕ) (read : List FactorList) (at : ℕ)
    → and_then (one_more lent bytes read at) (λ more behind. lists_from k lent bytes more behind) ≡ lists_from (suc k) lent bytes read at
unfolding lists_from
lists_step k lent bytes read at = by_list (list_code lent bytes read at)
  where
    by_list : (r : Reading FactorList)
        → and_then (and_then r (λ l behind. Ok (read ++ (l ∷ []), behind))) (λ more behind. lists_from k lent bytes more behind)
        ≡ and_then r (λ l behind. lists_from k lent bytes (read ++ (l ∷ [])) behind)
    by_list (Ok (l, behind)) = refl
    by_list (Err e) = refl

module _ {lent : Defaults} {bytes : List ℕ} {h : Lists} {at j : ℕ} (g : Going lent bytes h at j) where
  next : j < 20 → and_then (one_more lent bytes (lists_held j h) at) (λ more behind. lists_from (20 - (j + 1)) lent bytes more behind) ≡ scaling_list_data lent bytes
  next i =
      let e : suc (20 - (j + 1)) ≡ 20 - j = omega arith in
      lists_step (20 - (j + 1)) lent bytes (lists_held j h) at ∙ ap (λ (k : ℕ). lists_from k lent bytes (lists_held j h) at) e ∙ g.left

  pub going_stop : (why : Refusal) → j < 20 → Err why ≡ one_more lent bytes (lists_held j h) at → Err why ≡ scaling_list_data lent bytes
  going_stop why i e = ap (λ (r : Reading (List FactorList)). and_then r (λ more behind. lists_from (20 - (j + 1)) lent bytes more behind)) e ∙ next i

  pub going_more : (h' : Lists) (behind : ℕ) → j < 20 → Ok (lists_held (j + 1) h', behind) ≡ one_more lent bytes (lists_held j h) at
      → behind ≤ at + 4226 → Going lent bytes h' behind (j + 1)
  going_more h' behind i e b =
      record {
        within = omega arith;
        near = omega (arith, g.near);
        left = ap (λ (r : Reading (List FactorList)). and_then r (λ more behind. lists_from (20 - (j + 1)) lent bytes more behind)) e ∙ next i;
      }

  pub going_done : 20 ≤ j → Ok (lists_held 20 h, at) ≡ scaling_list_data lent bytes
  unfolding lists_from
  going_done i =
      let e : j ≡ 20 = omega (arith, g.within) in
      sym (ap (λ (k : ℕ). lists_from (20 - k) lent bytes (lists_held k h) at) e) ∙ g.left

-- ---- what is handed out
module _ (lists dcs : List ℕ) where
  held-at : (k : ℕ) → k < 20 → get_or (held 20 lists dcs) k none ≡ held_at lists dcs k
  unfolding held
  held-at k h = tabulate-get_or 20 (held_at lists dcs) k none h

  entry_is : (i : ℕ) → i < 1280 → get_or lists i 0 ≡ entry_at (held 20 lists dcs) i
  unfolding entry_at
  entry_is i h =
      sym (ap (λ (l : FactorList). get_or l.entries (i % 64) 0) (held-at (i / 64) (omega arith))
      ∙ tabulate-get_or 64 (λ k. get_or lists (64 * (i / 64) + k) 0) (i % 64) 0 (omega arith)
      ∙ ap (λ (k : ℕ). get_or lists k 0) (omega arith))

  dc_is : (k : ℕ) → k < 20 → get_or dcs k 0 ≡ dc_at (held 20 lists dcs) k
  unfolding dc_at
  dc_is k h = sym (ap (λ (l : FactorList). l.dc) (held-at k h))

-- a list in place of the first elements
put_first : (n : ℕ) (from to : List ℕ) (f : ℕ → ℕ) → length from ≡ n → ((i : ℕ) → i < n → get_or from i 0 ≡ f i) → from ++ drop n to ≡ overwrite n f to
unfolding overwrite
put_first n from to f e h =
    ap (λ (l : List ℕ). l ++ drop n to)
    (ext_get_or 0 from (tabulate n f) (e ∙ sym (tabulate-length n f)) (λ i b. h i (omega (arith, e)) ∙ sym (tabulate-get_or n f i 0 (omega (arith, e)))))

module _ (lent : Defaults) (bytes lists dcs : List ℕ) where
  pub written_got : (h : Lists) (bits : ℕ) → Ok (lists_held 20 h, bits) ≡ scaling_list_data lent bytes
      → Reads (Ok bits) (h.entries ++ drop 1280 lists) (h.dcs ++ drop 20 dcs) (written lists dcs (scaling_list_data lent bytes))
  written_got h bits e =
      let is = ap (written lists dcs) e in
      record {
        answered = ap (λ (w : ListsRead). w.answer) is;
        lists_are = put_first 1280 h.entries lists (entry_at (lists_held 20 h)) h.whole.0 (entry_is h.entries h.dcs) ∙ ap (λ (w : ListsRead). w.lists) is;
        dcs_are = put_first 20 h.dcs dcs (dc_at (lists_held 20 h)) h.whole.1 (dc_is h.entries h.dcs) ∙ ap (λ (w : ListsRead). w.dcs) is;
      }

  pub written_stop : (why : Refusal) → Err why ≡ scaling_list_data lent bytes → Reads (Err why) lists dcs (written lists dcs (scaling_list_data lent bytes))
  written_stop why e =
      let is = ap (written lists dcs) e in
      record {
        answered = ap (λ (w : ListsRead). w.answer) is;
        lists_are = ap (λ (w : ListsRead). w.lists) is;
        dcs_are = ap (λ (w : ListsRead). w.dcs) is;
      }
