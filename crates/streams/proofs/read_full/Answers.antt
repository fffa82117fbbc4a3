-- `streams::read_full` meets its contract: what one read gave stands behind what earlier ones gave.
use Rattle.std.proofs.Common.{drop, ◌≡◌, ℕ, ◌+◌, ◌-◌, ◌≤◌, List, ◌++◌, rules, arith, length, take, slice_range, sym, ap, ◌∙◌, subst, le_refl, drop_at, length-take-le}
use Rattle.std.proofs.lemmas.Slice.{take-put_mid_below}
use Rattle.std.specs.Io.KnownBytes.{Consumes}
use Rattle.std.proofs.lemmas.List.{take-append-le}
use borrow.Rule.Slice.PartMut.{put_mid, post_of}
use lib.Seq.{take-add}
use Rattle.streams.proofs.ReadLaws.{consumes_trans}
use Rattle.streams.proofs.read_full.Goals as goal

take_split : (a n : ℕ) (xs : List ℕ) → take a xs ++ slice_range xs a (a + n) ≡ take (a + n) xs
take_split a n xs =
    let same : (a + n) - a ≡ n = omega arith in
    ap (λ m. take a xs ++ take m (drop a xs)) same ∙ sym (take-add a n xs)

range_put : (a k n : ℕ) (xs ys : List ℕ) → a ≤ length xs → n ≤ length ys → slice_range (put_mid a k xs ys) a (a + n) ≡ take n ys
range_put a k n xs ys within fits =
    let same : (a + n) - a ≡ n = omega arith in
    let after = post_of a k xs in
    ap (take ((a + n) - a)) (drop_at (take a xs) (ys ++ after) a (length-take-le a xs within)) ∙ ap (λ m. take m (ys ++ after)) same ∙ take-append-le n ys after fits

pub loop-done-preserved : goal.loop-done-preserved
loop-done-preserved g c =
    let from = c.loop-done.done in
    let n = c.in-Ok.n in
    let room = length c.loop-done.buffer - from in
    let now = put_mid from room c.loop-done.buffer c.read.new.buf in
    let within = c.loop-done.invariant.1 in
    let part = range_put from room n c.loop-done.buffer c.read.new.buf within c.in-Ok.ensures.bound.0 in
    let front = take-put_mid_below from room c.loop-done.buffer c.read.new.buf from (le_refl from) within in
    let joined = ap (λ l. l ++ take n c.read.new.buf) (sym front) ∙ ap (λ l. take from now ++ l) (sym part) ∙ take_split from n now in
    (search rules, search rules, subst (Consumes _ _) joined (consumes_trans _ _ _ _ _ c.loop-done.invariant.2 c.in-Ok.ensures.bytes.0))
