-- Bits in a buffer of zeros, and what a call hands back.
--   buffer_bit        the buffer's bits are those written, and 0 behind them
--   buffer_binary     they are bits
--   written_got, written-short   bits that have room, and bits that have none
use Rattle.std.specs.Prelude.{Ok, Err}
use mathlib.Core.Path.{◌≡◌, refl, sym, ap, ◌∙◌}
use mathlib.Core.Bool.{Bool, true, false}
use mathlib.Core.List.{List, ◌++◌}
use Prim.Native.Nat.{ℕ, zero, suc, ◌+◌, ◌-◌, ◌≤◌, ◌<◌}
use native.Mathlib.Nat.{zero-add}
use native.Mathlib.Omega.{arith}
use borrow.Author.Tests.{ltb-true, ltb-false, lt-ltb, le-ltb}
use lib.Dec.{ltb}
use lib.ListN.{length, get_or, drop, replicate, length-replicate, get_or-append, get_or-eq_default}
use lib.Seq.{sets-eq, get_or-append-add, get_or-drop}
use Rattle.integers.specs.Lists.{overwrite}
use Rattle.integers.proofs.ListsLaws.{overwrite_cong}
use Rattle.refusal.specs.declared.Refusal.TheVariants.{OutputTooShort}
use Rattle.text.specs.Text.{Wrote}
use Rattle.bits_written.specs.Bytes.{byte_count, byte_of, Binary}
use Rattle.bits_written.proofs.BytesLaws.{byte_of_cong}
use Rattle.scaling_lists_writer.specs.Answers.{room_refused, written, Writes}

zeros_bit : (n i : ℕ) → ◌≡◌ {A = ℕ} (get_or (replicate n 0) i 0) 0
zeros_bit zero i = refl
zeros_bit (suc n) zero = refl
zeros_bit (suc n) (suc i) = zeros_bit n i

module _ {m : List ℕ} {count : ℕ} (n : ℕ) (bits : List ℕ) (w : Wrote (replicate n 0) 0 bits m count) (few : count ≤ n) where
  buffer_is : m ≡ bits ++ drop (length bits) (replicate n 0)
  buffer_is =
      let z : ℕ = 0 in
      w.is ∙ sets-eq bits (replicate n 0) 0 (omega (arith, w.end, length-replicate n z))
      ∙ ap (λ (k : ℕ). bits ++ drop k (replicate n 0)) (zero-add (length bits))

  pub buffer_bit : (i : ℕ) → get_or m i 0 ≡ get_or bits i 0
  buffer_bit i = ap (λ (l : List ℕ). get_or l i 0) buffer_is ∙ by_place (ltb i (length bits)) refl
    where
      by_place : (b : Bool) → ltb i (length bits) ≡ b → get_or (bits ++ drop (length bits) (replicate n 0)) i 0 ≡ get_or bits i 0
      by_place true e = get_or-append bits (drop (length bits) (replicate n 0)) 0 i (ltb-true i (length bits) e)
      by_place false e =
          let h = ltb-false i (length bits) e in
          let at : i ≡ length bits + (i - length bits) = omega arith in
          ap (λ (k : ℕ). get_or (bits ++ drop (length bits) (replicate n 0)) k 0) at
          ∙ get_or-append-add bits (drop (length bits) (replicate n 0)) (i - length bits) 0
          ∙ get_or-drop (length bits) (replicate n 0) (i - length bits) 0
          ∙ zeros_bit n (length bits + (i - length bits))
          ∙ sym (get_or-eq_default bits 0 h)

  pub buffer_binary : Binary bits → Binary m
  buffer_binary g = record { small = λ i. rw (buffer_bit i) (g.small i) }

module _ (out bits : List ℕ) where
  pub written-short : (count k : ℕ) → count ≡ length bits → k ≡ byte_count count → length out < k → Writes (Err OutputTooShort) out (written out bits)
  unfolding written room_refused
  written-short count k e q h = rw (← e, ← q, lt-ltb (length out) k h) (record { answered = refl; out_is = refl })

  pub written_got : (count k : ℕ) (m after : List ℕ) → count ≡ length bits → k ≡ byte_count count → k ≤ length out → ((i : ℕ) → get_or m i 0 ≡ get_or bits i 0)
      → after ≡ overwrite k (byte_of m) out → Writes (Ok count) after (written out bits)
  unfolding written room_refused
  written_got count k m after e q h g s =
      rw (← e, ← q, le-ltb (length out) k h)
      (record { answered = refl; out_is = s ∙ overwrite_cong k (byte_of m) (byte_of bits) out (λ k l. byte_of_cong m bits k g) })
