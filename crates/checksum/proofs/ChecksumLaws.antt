-- Laws of the checksum's sums.
--   byte_xor        a byte xor a mask is a byte
--   xor_mask_lt      a mask is a byte, for columns and rows of 16 bits
--   xor_assoc       xor is associative
--   xor_mask_run     the mask in a run of 128 columns
--   run_term_eq      what a sample of a run adds is what its column does
--   total_zero, total_suc, total_add, total_cong   no term, one more, several more, equal terms
use Rattle.std.proofs.Common.{◌≡◌, ℕ, zero, suc, ◌+◌, ◌*◌, ◌/◌, ◌%◌, ◌^◌, ◌<◌, ◌≤◌, List, get_or, take, drop, sym, refl, ap, ◌∙◌, ap₂, add-zero, add_assoc, add-suc, mod-lt, add-one, arith}
use Rattle.std.proofs.lemmas.List.{get_or-take, get_or-drop}
use lib.Arith.{bin_ind}
use lib.Bits.{bit_xor, differ, xor_lt, xor_step, xor_shr, xor_mod, xor_comm, xor_shifted}
use Rattle.checksum.specs.Checksum.{xor_mask, sample_term, total, column_term, run_term}

pub low_byte : (s : ℕ) → s % 256 < 256
low_byte s = mod-lt s (omega arith)

pub high_byte : (s : ℕ) → s < 65536 → s / 256 < 256
high_byte s h = omega arith

pub byte_xor : (s m : ℕ) → s < 256 → m < 256 → bit_xor s m < 256
byte_xor s m h k = xor_lt 8 s m h k

pub xor_mask_lt : (x y : ℕ) → x < 65536 → y < 65536 → xor_mask x y < 256
unfolding xor_mask
xor_mask_lt x y h k =
    byte_xor _ _ (byte_xor _ _ (byte_xor _ _ (low_byte x) (low_byte y)) (high_byte x h)) (high_byte y k)

differ_assoc : (x y z : ℕ) → x < 2 → y < 2 → z < 2 → differ (bit_xor x y) z ≡ differ x (bit_xor y z)
differ_assoc zero zero z h k l = refl
differ_assoc zero (suc zero) zero h k l = refl
differ_assoc zero (suc zero) (suc zero) h k l = refl
differ_assoc zero (suc zero) (suc (suc z)) h k l = absurd (let b : ⊥ = omega arith in b)
differ_assoc zero (suc (suc y)) z h k l = absurd (let b : ⊥ = omega arith in b)
differ_assoc (suc zero) zero z h k l = refl
differ_assoc (suc zero) (suc zero) zero h k l = refl
differ_assoc (suc zero) (suc zero) (suc zero) h k l = refl
differ_assoc (suc zero) (suc zero) (suc (suc z)) h k l = absurd (let b : ⊥ = omega arith in b)
differ_assoc (suc zero) (suc (suc y)) z h k l = absurd (let b : ⊥ = omega arith in b)
differ_assoc (suc (suc x)) y z h k l = absurd (let b : ⊥ = omega arith in b)

-- digit by digit, the lowest first
pub xor_assoc : (a b c : ℕ) → bit_xor (bit_xor a b) c ≡ bit_xor a (bit_xor b c)
xor_assoc a =
    bin_ind (λ (n : ℕ). (b c : ℕ) → bit_xor (bit_xor n b) c ≡ bit_xor n (bit_xor b c)) (λ b c. refl)
    (λ n ih b c.
    xor_step (bit_xor n b) c
    ∙ ap₂ (λ (q r : ℕ). bit_xor q (c / 2) * 2 + differ r (c % 2)) (xor_shr n b 1) (xor_mod n b 1)
    ∙ ap₂ (λ (q r : ℕ). q * 2 + r) (ih (b / 2) (c / 2)) (differ_assoc (n % 2) (b % 2) (c % 2) (omega arith) (omega arith) (omega arith))
    ∙ sym (ap₂ (λ (q r : ℕ). bit_xor (n / 2) q * 2 + differ (n % 2) r) (xor_shr b c 1) (xor_mod b c 1))
    ∙ sym (xor_step n (bit_xor b c))) a

-- a column k on from a multiple of 128: only its low bits differ
low_bits : (x k : ℕ) → x % 128 ≡ 0 → k < 128 → (x + k) % 256 ≡ bit_xor k (x % 256)
low_bits x k h l =
    let q : ℕ = x / 128 % 2 in
    let e : x % 256 ≡ q * 2 ^ 7 = omega arith in
    let s : (x + k) % 256 ≡ q * 2 ^ 7 + k = omega arith in
    s ∙ sym (ap (bit_xor k) e ∙ xor_comm k (q * 2 ^ 7) ∙ xor_shifted q 7 k l)

pub xor_mask_run : (x y k : ℕ) → x % 128 ≡ 0 → k < 128 → xor_mask (x + k) y ≡ bit_xor k (xor_mask x y)
unfolding xor_mask
xor_mask_run x y k h l =
    let e : (x + k) / 256 ≡ x / 256 = omega arith in
    rw (low_bits x k h l, e, xor_assoc k (x % 256) (y % 256), xor_assoc k (bit_xor (x % 256) (y % 256)) (x / 256))
    (xor_assoc k (bit_xor (bit_xor (x % 256) (y % 256)) (x / 256)) (y / 256))

pub total_zero : (f : ℕ → ℕ) → total 0 f ≡ 0
unfolding total
total_zero f = refl

pub total_suc : (k : ℕ) (f : ℕ → ℕ) → total (k + 1) f ≡ total k f + f k
unfolding total
total_suc k f = rw add-one refl

pub total_add : (x c : ℕ) (f : ℕ → ℕ) → total (x + c) f ≡ total x f + total c (λ k. f (x + k))
unfolding total
total_add x zero f = rw (add-zero x) (sym (add-zero (total x f)))
total_add x (suc c) f = rw (add-suc x c) (ap (λ (s : ℕ). s + f (x + c)) (total_add x c f) ∙ add_assoc (total x f) (total c (λ k. f (x + k))) (f (x + c)))

pub total_cong : (c : ℕ) (f g : ℕ → ℕ) → ((k : ℕ) → k < c → f k ≡ g k) → total c f ≡ total c g
unfolding total
total_cong zero f g h = refl
total_cong (suc c) f g h = ap₂ ◌+◌ (total_cong c f g (λ k l. h k (omega arith))) (h c (omega arith))

-- a sample of a run is one of its row
pub run_term_eq : (b first x y n k : ℕ) (plane : List ℕ) {m : ℕ} → m ≡ xor_mask x y → x % 128 ≡ 0 → k < n → n ≤ 128
    → run_term b m (take n (drop (first + x) plane)) k ≡ column_term b first y plane (x + k)
unfolding run_term column_term
run_term_eq b first x y n k plane e h l s =
    ap₂ (sample_term b) (get_or-take n (drop (first + x) plane) k 0 l ∙ get_or-drop (first + x) plane k 0 ∙ ap (λ (i : ℕ). get_or plane i 0) (add_assoc first x k))
    (ap (bit_xor k) e ∙ sym (xor_mask_run x y k h (omega arith)))
