-- Laws of lists by an index function, and of loops that store one element after the other.
--   tabulate-…    length, elements, equality by elements
--   overwrite-…   no store, one store more, length, elements, the first k and the others, a second time
--   Stored        the invariant of a loop that has stored f 0, .., f (k - 1); stored_none, -more, -length, -all are its needs
use mathlib.Core.Path.{◌≡◌, refl, sym, ap, ap₂, ◌∙◌}
use mathlib.Core.List.{List, [], ◌∷◌, ◌++◌, append_assoc}
use Prim.Native.Nat.{ℕ, zero, suc, ◌+◌, ◌-◌, ◌≤◌, ◌<◌}
use native.Mathlib.Nat.{not-suc-le-zero, add-zero, zero-add}
use native.Mathlib.Numerals.{add-one}
use native.Mathlib.Omega.{arith}
use lib.ListN.{length, get_or, take, drop, set, length-append, length-drop, get_or-append}
use lib.Seq.{drop-cons, get_or-append-add, get_or-drop, set_at, take_at, drop_at}
use Rattle.integers.specs.Lists.{tabulate_from, tabulate, overwrite}

module _ {A : Type 0} where
  from_length : (i n : ℕ) (f : ℕ → A) → length (tabulate_from i n f) ≡ n
  unfolding tabulate_from
  from_length i zero f = refl
  from_length i (suc n) f = ap suc (from_length (suc i) n f)

  pub tabulate-length : (n : ℕ) (f : ℕ → A) → length (tabulate n f) ≡ n
  unfolding tabulate
  tabulate-length n f = from_length 0 n f

  from_get_or : (i n : ℕ) (f : ℕ → A) (k : ℕ) (d : A) → k < n → get_or (tabulate_from i n f) k d ≡ f (i + k)
  unfolding tabulate_from
  from_get_or i zero f k d h = absurd (not-suc-le-zero h)
  from_get_or i (suc n) f zero d h = ap f (sym (add-zero i))
  from_get_or i (suc n) f (suc k) d h = from_get_or (suc i) n f k d (omega arith) ∙ ap f (omega arith)

  pub tabulate-get_or : (n : ℕ) (f : ℕ → A) (k : ℕ) (d : A) → k < n → get_or (tabulate n f) k d ≡ f k
  unfolding tabulate
  tabulate-get_or n f k d h = from_get_or 0 n f k d h ∙ ap f (zero-add k)

  from_cong : (i n : ℕ) (f g : ℕ → A) → ((k : ℕ) → i ≤ k → k < i + n → f k ≡ g k) → tabulate_from i n f ≡ tabulate_from i n g
  unfolding tabulate_from
  from_cong i zero f g h = refl
  from_cong i (suc n) f g h =
      ap₂ ◌∷◌ (h i (omega arith) (omega arith)) (from_cong (suc i) n f g (λ k a b. h k (omega arith) (omega arith)))

  pub tabulate_cong : (n : ℕ) (f g : ℕ → A) → ((k : ℕ) → k < n → f k ≡ g k) → tabulate n f ≡ tabulate n g
  unfolding tabulate
  tabulate_cong n f g h = from_cong 0 n f g (λ k a b. h k (omega arith))

  from_suc : (i n : ℕ) (f : ℕ → A) → tabulate_from i (suc n) f ≡ tabulate_from i n f ++ (f (i + n) ∷ [])
  unfolding tabulate_from
  from_suc i zero f = ap (λ (k : ℕ). f k ∷ []) (sym (add-zero i))
  from_suc i (suc n) f = ap (λ (l : List A). f i ∷ l) (from_suc (suc i) n f ∙ ap (λ (k : ℕ). tabulate_from (suc i) n f ++ (f k ∷ [])) (omega arith))

  -- one element more, at the end
  pub tabulate_suc : (n : ℕ) (f : ℕ → A) → tabulate (suc n) f ≡ tabulate n f ++ (f n ∷ [])
  unfolding tabulate
  tabulate_suc n f = from_suc 0 n f ∙ ap (λ (k : ℕ). tabulate_from 0 n f ++ (f k ∷ [])) (zero-add n)

  pub overwrite_zero : (f : ℕ → A) (xs : List A) → overwrite 0 f xs ≡ xs
  unfolding overwrite tabulate tabulate_from
  overwrite_zero f xs = refl

  -- one store more
  pub overwrite_suc : (k : ℕ) (f : ℕ → A) (xs : List A) → k < length xs → set (overwrite k f xs) k (f k) ≡ overwrite (suc k) f xs
  unfolding overwrite
  overwrite_suc k f xs h =
      ap (λ (l : List A). set (tabulate k f ++ l) k (f k)) (drop-cons xs k (f k) h)
      ∙ set_at (tabulate k f) (get_or xs k (f k)) (drop (suc k) xs) (f k) k (tabulate-length k f)
      ∙ sym (ap (λ (l : List A). l ++ drop (suc k) xs) (tabulate_suc k f) ∙ append_assoc (tabulate k f) (f k ∷ []) (drop (suc k) xs))

  pub overwrite-length : (k : ℕ) (f : ℕ → A) (xs : List A) → k ≤ length xs → length (overwrite k f xs) ≡ length xs
  unfolding overwrite
  overwrite-length k f xs h = simp (length-append, length-drop, tabulate-length) (omega arith)

  pub overwrite_cong : (k : ℕ) (f g : ℕ → A) (xs : List A) → ((i : ℕ) → i < k → f i ≡ g i) → overwrite k f xs ≡ overwrite k g xs
  unfolding overwrite
  overwrite_cong k f g xs h = ap (λ (l : List A). l ++ drop k xs) (tabulate_cong k f g h)

  -- an element that was replaced
  pub overwrite-get_or : (k : ℕ) (f : ℕ → A) (xs : List A) (i : ℕ) (d : A) → i < k → get_or (overwrite k f xs) i d ≡ f i
  unfolding overwrite
  overwrite-get_or k f xs i d h = get_or-append (tabulate k f) (drop k xs) d i (rw tabulate-length h) ∙ tabulate-get_or k f i d h

  -- one that was not
  pub overwrite-get_or-past : (k : ℕ) (f : ℕ → A) (xs : List A) (i : ℕ) (d : A) → k ≤ i → get_or (overwrite k f xs) i d ≡ get_or xs i d
  unfolding overwrite
  overwrite-get_or-past k f xs i d h =
      ap (λ (j : ℕ). get_or (tabulate k f ++ drop k xs) j d) at
      ∙ get_or-append-add (tabulate k f) (drop k xs) (i - k) d
      ∙ get_or-drop k xs (i - k) d
      ∙ ap (λ (j : ℕ). get_or xs j d) (omega arith)
    where
      at : i ≡ length (tabulate k f) + (i - k)
      at = rw tabulate-length (omega arith)

module _ {A : Type 0} (k : ℕ) (f : ℕ → A) (xs : List A) where
  -- the first k elements, and the others
  pub overwrite-take : take k (overwrite k f xs) ≡ tabulate k f
  unfolding overwrite
  overwrite-take = take_at (tabulate k f) (drop k xs) k (tabulate-length k f)

  pub overwrite-drop : drop k (overwrite k f xs) ≡ drop k xs
  unfolding overwrite
  overwrite-drop = drop_at (tabulate k f) (drop k xs) k (tabulate-length k f)

-- a second time
pub overwrite_twice : {A : Type 0} (k : ℕ) (f g : ℕ → A) (xs : List A) → overwrite k f (overwrite k g xs) ≡ overwrite k f xs
unfolding overwrite
overwrite_twice {A} k f g xs = ap (λ (l : List A). tabulate k f ++ l) (overwrite-drop k g xs)

-- ys is xs after the stores of f 0, .., f (k - 1), each at its index
pub record Stored {A : Type 0} (f : ℕ → A) (xs : List A) (k : ℕ) (ys : List A) : Type 0 where
  pub is : ys ≡ overwrite k f xs
  pub inside : k ≤ length xs

pub stored_none : {A : Type 0} {f : ℕ → A} {xs : List A} → Stored f xs 0 xs
stored_none {f = f} {xs} = record { is = sym (overwrite_zero f xs); inside = omega arith }

module _ {A : Type 0} {f : ℕ → A} {xs : List A} {k : ℕ} {ys : List A} (s : Stored f xs k ys) where
  pub stored_length : length ys ≡ length xs
  stored_length = ap length s.is ∙ overwrite-length k f xs s.inside

  pub stored_more : {v : A} → k < length xs → v ≡ f k → Stored f xs (k + 1) (set ys k v)
  stored_more {v} h e =
      record { is = rw (e, s.is, add-one) (overwrite_suc k f xs h); inside = omega arith }

  pub stored_all : {m : ℕ} → k ≡ m → ys ≡ overwrite m f xs
  stored_all e = s.is ∙ ap (λ (j : ℕ). overwrite j f xs) e
