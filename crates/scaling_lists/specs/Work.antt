-- What the functions below the entry point hand to each other.
--   read_as v r           a value as a reading, where a call answers the offset behind it
--   listed es r           a list as a reading, by its entries and a DC that was read
--   Positions ps len      at most 64 positions, each of them below a length
--   lists_held j h        the first j lists of those that are held
--   one_more              the lists with the next one behind them, as a reading
use Rattle.std.specs.Prelude.{List, [], ◌∷◌, ◌++◌, ℕ, ◌≤◌, ◌<◌, length, get_or, Result, Ok, Err}
use Rattle.refusal.specs.declared.Refusal.{Refusal}
use Rattle.scaling_lists_codes.specs.Syntax.{Reading, FactorList, Defaults, and_then, list_code}
use Rattle.scaling_lists_taken.specs.Held.{held}
use Rattle.scaling_lists.specs.declared.held.Lists.{Lists}

abbrev pub read_as : {A : Type 0} → A → Result ℕ Refusal → Reading A
read_as v (Ok behind) = Ok (v, behind)
read_as v (Err e) = Err e

abbrev pub listed : List ℕ → Reading ℕ → Reading FactorList
listed es (Ok (dc, behind)) = Ok (record { entries = es; dc = dc }, behind)
listed es (Err e) = Err e

pub record Positions (ps : List ℕ) (len : ℕ) : Type 0 where
  pub few : length ps ≤ 64
  pub below : (i : ℕ) → i < length ps → get_or ps i 0 < len

abbrev pub lists_held : ℕ → Lists → List FactorList
lists_held j h = held j h.entries h.dcs

abbrev pub one_more : Defaults → List ℕ → List FactorList → ℕ → Reading (List FactorList)
one_more lent bytes read at = and_then (list_code lent bytes read at) (λ l behind. Ok (read ++ (l ∷ []), behind))
