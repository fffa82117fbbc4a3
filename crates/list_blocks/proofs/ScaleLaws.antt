-- Blocks by number, whatever the library's function and the output's width are.
--   NumberHeld, number_held           a number that the checks let pass
--   list_refused, list_missing, list_found   the list of a number, as the checks answer one after the other
--   scale_refused                   a refused call hands back its refusal and the output as lent
--   scale_done                      else it hands back what the library has written with the list
use Rattle.std.specs.Prelude.{Result, Err}
use mathlib.Core.Path.{◌≡◌, refl, sym, ap, ◌∙◌}
use mathlib.Core.Bool.{Bool, false}
use mathlib.Core.List.{List, [], ◌∷◌, ◌++◌}
use Prim.Native.Nat.{ℕ}
use lib.IntN.{ℤ}
use lib.ListN.{length}
use Rattle.h265.specs.ScalingFactor.{ScalingList}
use Rattle.h265.specs.ScalingFactor.ScalingList.{flat}
use Rattle.refusal.specs.declared.Refusal.{Refusal}
use Rattle.refusal.specs.declared.Refusal.TheVariants.{OutputTooShort, ListMissing}
use Rattle.refusal.specs.Outcome.{Outcome, accepted, refused}
use Rattle.refusal.proofs.LadderLaws.{Rung, first_accepted, first_passed, first_refused, with_value}
use Rattle.refusal.proofs.LadderLaws.Rung.{rung}
use Rattle.scaling_blocks.specs.Blocks.{scaling_ladder, block_answer, CountWrites, left_as_lent}
use Rattle.scaling_blocks.proofs.BlockLaws.{rungs}
use Rattle.list_places.specs.Stream.{Stream, numbered, missing, number_ladder, number_answer}
use Rattle.list_blocks.specs.Scale.{Block, list_of, list_answer, library_block, scale_answer}

abbrev number_rungs : Bool → ℕ → Stream → ℕ → List Rung
number_rungs short d s i = rung short OutputTooShort ∷ rung (missing d s i) ListMissing ∷ []

module _ (short : Bool) (d : ℕ) (s : Stream) (i : ℕ) where
  pub record NumberHeld : Type 0 where
    pub room : short ≡ false
    pub present : missing d s i ≡ false

  pub number_held : {v : Unit {0}} → accepted v ≡ number_answer short d s i → NumberHeld
  unfolding number_ladder number_answer
  number_held {v} h = let p = (first_accepted tt tt v (number_rungs short d s i) h).0 in record { room = p.0; present = p.1.0 }

module _ (narrow : Bool) (n b : ℕ) (x : Bool) (levels places : ℕ) (short : Bool) (d : ℕ) (s : Stream) (i : ℕ) where
  abbrev block_rungs : List Rung
  block_rungs = rungs narrow n b x 64 levels places

  abbrev found : Outcome ScalingList
  found = accepted (list_of (numbered s i))

  pub list_refused : (e : Refusal) → refused tt e ≡ block_answer narrow n b x 64 levels places → refused flat e ≡ list_answer narrow n b x levels places short d s i
  unfolding scaling_ladder number_ladder list_answer
  list_refused e h =
      first_refused tt tt (refused flat) (number_ladder (refused flat) found short d s i) (λ o. refused flat e ≡ o) e (λ f k. with_value flat e f k) block_rungs h

  passed : accepted tt ≡ block_answer narrow n b x 64 levels places → list_answer narrow n b x levels places short d s i ≡ number_ladder (refused flat) found short d s i
  unfolding scaling_ladder number_ladder list_answer
  passed h = first_passed (refused flat) (number_ladder (refused flat) found short d s i) block_rungs (first_accepted tt tt tt block_rungs h).0

  pub list_missing : (e : Refusal) → accepted tt ≡ block_answer narrow n b x 64 levels places → refused tt e ≡ number_answer short d s i
      → refused flat e ≡ list_answer narrow n b x levels places short d s i
  unfolding number_ladder number_answer
  list_missing e p h =
      rw (passed p) (first_refused tt tt (refused flat) found (λ o. refused flat e ≡ o) e (λ f k. with_value flat e f k) (number_rungs short d s i) h)

  pub list_found : accepted tt ≡ block_answer narrow n b x 64 levels places → NumberHeld short d s i
      → found ≡ list_answer narrow n b x levels places short d s i
  unfolding number_ladder
  list_found p h = rw (passed p) (sym (first_passed (refused flat) found (number_rungs short d s i) (h.room, (h.present, tt))))

module _ (short : Bool) (d : ℕ) (s : Stream) (i : ℕ) (k : Block) (out : List ℤ) where
  abbrev all_rungs : List Rung
  all_rungs = rungs k.narrow k.size k.depth k.extended 64 (length k.levels) (length out) ++ number_rungs short d s i

  abbrev answered : Outcome ScalingList
  answered = list_answer k.narrow k.size k.depth k.extended (length k.levels) (length out) short d s i

  pub scale_refused : {e : Refusal} → refused flat e ≡ answered → CountWrites (Err e) out (scale_answer short d s i k out)
  unfolding scaling_ladder number_ladder list_answer scale_answer
  scale_refused {e} h =
      first_refused flat (list_of (numbered s i)) (left_as_lent out) (library_block k (list_of (numbered s i)) out) (λ w. CountWrites (Err e) out w) e
      (λ f g. record { answered = with_value 0 e f g; out = refl }) all_rungs h

  pub scale_done : {list : ScalingList} {r : Result ℕ Refusal} {after : List ℤ} → accepted list ≡ answered → CountWrites r after (library_block k list out)
      → CountWrites r after (scale_answer short d s i k out)
  unfolding scaling_ladder number_ladder list_answer scale_answer
  scale_done {list} h w =
      let p = first_accepted flat (list_of (numbered s i)) list all_rungs h in
      rw (first_passed (left_as_lent out) (library_block k (list_of (numbered s i)) out) all_rungs p.0 ∙ ap (λ (l : ScalingList). library_block k l out) (sym p.1)) w
