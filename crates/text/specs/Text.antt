-- Numbers, rows and blocks as text in ASCII, and what it is to write a text into a buffer.
--   digits k n             the decimal digits of n, the last k of them
--   unsigned_text n         a natural number below 10^20, so of every 64-bit number
--   signed_text z           an integer; a negative one has a minus sign before the digits of its size
--   row_text zs             numbers with single spaces between them, and a line end after the last
--   rows_text k n zs        k rows of n numbers
--   block_text n zs         a block in row order: n rows of n numbers
--   Wrote l i t m j        m is l with t written at i, and j is where t ends
--   WroteUpTo l i t m j e  the same, and t ends at e or before
--   Counts n xs            n counts elements at the start of xs
use Rattle.std.specs.Prelude.{◌≡◌, cond, List, [], ◌∷◌, ◌++◌, ℕ, zero, suc, ◌+◌, ◌/◌, ◌%◌, ◌≤◌, ltb, ℤ, pos, negsuc, length, take, drop}
use Rattle.std.proofs.lemmas.List.Edits.{sets}

abbrev pub minus : ℕ
minus = 45

abbrev pub space : ℕ
space = 32

abbrev pub line_end : ℕ
line_end = 10

-- of a number below 10
abbrev pub digit : ℕ → ℕ
digit d = 48 + d

unfoldable pub digits : ℕ → ℕ → List ℕ
digits zero n = []
digits (suc k) n = cond (ltb n 10) (digit n ∷ []) (digits k (n / 10) ++ (digit (n % 10) ∷ []))

unfoldable pub unsigned_text : ℕ → List ℕ
unsigned_text n = digits 20 n

unfoldable pub signed_text : ℤ → List ℕ
signed_text (pos n) = unsigned_text n
signed_text (negsuc n) = minus ∷ unsigned_text (suc n)

-- what stands after a number, by the numbers that follow it in the row
abbrev pub separator : List ℤ → ℕ
separator [] = line_end
separator (z ∷ zs) = space

unfoldable pub row_text : List ℤ → List ℕ
row_text [] = []
row_text (z ∷ zs) = signed_text z ++ (separator zs ∷ row_text zs)

unfoldable pub rows_text : ℕ → ℕ → List ℤ → List ℕ
rows_text zero n zs = []
rows_text (suc k) n zs = row_text (take n zs) ++ rows_text k n (drop n zs)

unfoldable pub block_text : ℕ → List ℤ → List ℕ
block_text n zs = rows_text n n zs

pub record Wrote {A : Type 0} (l : List A) (i : ℕ) (t m : List A) (j : ℕ) : Type 0 where
  pub is : m ≡ sets l i t
  pub end : j ≡ i + length t

pub record WroteUpTo {A : Type 0} (l : List A) (i : ℕ) (t m : List A) (j e : ℕ) : Type 0 where
  pub wrote : Wrote l i t m j
  pub bound : j ≤ e

-- the second part follows from the first; both are stated so that `&xs[..n]` needs no proof file
abbrev pub Counts : {A : Type 0} → ℕ → List A → Type 0
Counts n xs = (n ≤ length xs) × (n ≡ length (take n xs))
