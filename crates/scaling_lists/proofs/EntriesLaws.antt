-- Lists of entries in buffers.
--   Entries, entries-…   the invariant of the loop over a coded list: what is left, from here, is what the whole gives; and its needs
use mathlib.Core.Path.{◌≡◌, refl, sym, ap, ◌∙◌}
use mathlib.Core.List.{List}
use Prim.Native.Nat.{ℕ, suc, ◌+◌, ◌*◌, ◌≤◌, ◌<◌}
use native.Mathlib.Numerals.{add-one}
use native.Mathlib.Omega.{arith}
use lib.ListN.{length, get_or, set, drop, length-set, drop_of_length-le}
use lib.Seq.{drop-cons}
use Rattle.std.specs.Prelude.{Ok, Err}
use Rattle.refusal.specs.declared.Refusal.{Refusal}
use Rattle.scaling_lists_codes.specs.Syntax.{Reading, and_then, delta_code, entries_from}

pub record Entries (bytes scan : List ℕ) (first start : ℕ) (es₀ es : List ℕ) (next at i : ℕ) : Type 0 where
  pub within : i ≤ length scan
  pub long : length es ≡ length es₀
  pub near : at ≤ start + 65 * i
  pub left : entries_from bytes (drop i scan) next at es ≡ entries_from bytes scan first start es₀

pub entries_start : (bytes scan : List ℕ) (first start : ℕ) (es : List ℕ) → Entries bytes scan first start es es first start 0
entries_start bytes scan first start es = record { within = omega arith; long = refl; near = omega arith; left = refl }

first_left : (bytes scan : List ℕ) (i next at : ℕ) (es : List ℕ) → i < length scan
    → entries_from bytes (drop i scan) next at es ≡ and_then (delta_code bytes next at) (λ v behind. entries_from bytes (drop (suc i) scan) v behind (set es (get_or scan i 0) v))
unfolding entries_from
first_left bytes scan i next at es h = rw (drop-cons scan i 0 h)

module _ {bytes scan : List ℕ} {first start : ℕ} {es₀ es : List ℕ} {next at i : ℕ} (e : Entries bytes scan first start es₀ es next at i) where
  pub entries_stop : (why : Refusal) → i < length scan → Err why ≡ delta_code bytes next at → Err why ≡ entries_from bytes scan first start es₀
  entries_stop why h d =
      sym (first_left bytes scan i next at es h ∙ ap (λ (r : Reading ℕ). and_then r (λ v behind. entries_from bytes (drop (suc i) scan) v behind (set es (get_or scan i 0) v))) (sym d))
      ∙ e.left

  pub entries_more : (v behind : ℕ) → i < length scan → Ok (v, behind) ≡ delta_code bytes next at → behind ≤ at + 65
      → Entries bytes scan first start es₀ (set es (get_or scan i 0) v) v behind (i + 1)
  entries_more v behind h d b =
      record {
        within = omega arith;
        long = length-set es (get_or scan i 0) v ∙ e.long;
        near = omega (arith, e.near);
        left = rw add-one
            (sym (first_left bytes scan i next at es h ∙ ap (λ (r : Reading ℕ). and_then r (λ v behind. entries_from bytes (drop (suc i) scan) v behind (set es (get_or scan i 0) v))) (sym d))
            ∙ e.left);
      }

  pub entries_done : length scan ≤ i → Ok (es, at) ≡ entries_from bytes scan first start es₀
  unfolding entries_from
  entries_done h = sym (rw (drop_of_length-le scan h) refl) ∙ e.left
