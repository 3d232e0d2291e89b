-- The first stop of a text, whose blocks of 32 bytes are looked at one after another.
use Rattle.std.proofs.Common.{◌≡◌, ℕ, ◌+◌, ◌%◌, ◌^◌, ◌<◌, ◌≤◌, ◌⊎◌, Bool, true, false, cond, ◌||◌, eqb, ltb, List, [], ◌∷◌, map, length, get_or, take, drop, replicate, inl, inr, Some, None, position, bit_or, refl, sym, ap, ap₂, ◌∙◌, arith}
use Rattle.std.specs.List.{position_or_len}
use Rattle.std.specs.Simd.Lanes.{mask_l}
use Rattle.std.proofs.lemmas.Bool.{cases_lt}
use Rattle.std.proofs.lemmas.Bool.Decides.{nat_tests}
use Rattle.std.proofs.lemmas.List.{length-map}
use Rattle.std.proofs.lemmas.List.Sums.{position_or_len_is}
use Rattle.std.proofs.lemmas.Simd.{zip2_of_maps, zip2_splat, map-map, mask_l-mod, length-chunk, leading_from_mask_l, trailing_mask_l, run_in_chunk_le, run_in_chunk_fails, run_in_chunk_stops}
use Rattle.json.specs.Run.{is_stop}
use lib.Count.{count_trailing_zeros}
use lib.Lanes.{zip2, top, chunk}

-- ---- the mask of a block

abbrev is_hit : ℕ → ℕ → ℕ
is_hit a b = cond (eqb a b) 255 0

abbrev is_below : ℕ → ℕ → ℕ
is_below a b = cond (ltb a b) 255 0

-- of three tests of a byte, each 255 where it is passed
any_of_three : (a b c : Bool) → top 7 (bit_or (bit_or (cond a 255 0) (cond b 255 0)) (cond c 255 0)) ≡ (a || b || c)
any_of_three true true true = refl
any_of_three true true false = refl
any_of_three true false true = refl
any_of_three true false false = refl
any_of_three false true true = refl
any_of_three false true false = refl
any_of_three false false true = refl
any_of_three false false false = refl

abbrev tests : ℕ → ℕ
tests x = bit_or (bit_or (is_hit x 34) (is_hit x 92)) (is_below x 32)

each_byte : (bytes : List ℕ) → map (λ x. top 7 (tests x)) bytes ≡ map is_stop bytes
each_byte [] = refl
each_byte (x ∷ xs) = ap₂ (λ a b. a ∷ b) (any_of_three (eqb x 34) (eqb x 92) (ltb x 32)) (each_byte xs)

pub masked : (block : List ℕ) → length block ≡ 32
    → mask_l (map (top 7) (zip2 bit_or (zip2 bit_or (zip2 is_hit block (replicate 32 34)) (zip2 is_hit block (replicate 32 92))) (zip2 is_below block (replicate 32 32)))) % 2 ^ 64 ≡ mask_l (map is_stop block)
masked block long =
    let tested = zip2_of_maps bit_or _ _ block (zip2_of_maps bit_or _ _ block (zip2_splat is_hit block 32 34 long) (zip2_splat is_hit block 32 92 long)) (zip2_splat is_below block 32 32 long) in
    ap (λ l. mask_l (map (top 7) l) % 2 ^ 64) tested ∙ ap (λ l. mask_l l % 2 ^ 64) (map-map (top 7) tests block ∙ each_byte block)
    ∙ mask_l-mod (map is_stop block) 64 (omega (arith, length-map block is_stop, long))

-- ---- what it says of the run before the first stop

pub none_in_block : (bytes : List ℕ) (from : ℕ) → from + 32 ≤ length bytes → mask_l (map is_stop (chunk from 32 bytes)) ≡ 0 → 32 ≡ position_or_len is_stop (take 32 (drop from bytes))
none_in_block bytes from room none = sym (leading_from_mask_l is_stop (chunk from 32 bytes) none ∙ length-chunk from 32 bytes room)

pub first_in_block : (bytes : List ℕ) (from : ℕ) → from + 32 ≤ length bytes → 0 < mask_l (map is_stop (chunk from 32 bytes))
    → count_trailing_zeros 64 (mask_l (map is_stop (chunk from 32 bytes))) ≡ position_or_len is_stop (take 32 (drop from bytes))
first_in_block bytes from room some = trailing_mask_l is_stop 64 (chunk from 32 bytes) (omega (arith, length-chunk from 32 bytes room)) some

-- ---- one block after another

abbrev pub IsPlainBefore : List ℕ → ℕ → Type 0
IsPlainBefore bytes end = (k : ℕ) → k < end → is_stop (get_or bytes k 0) ≡ false

pub more_plain : (bytes : List ℕ) (from run : ℕ) → from + 32 ≤ length bytes → run ≡ position_or_len is_stop (take 32 (drop from bytes)) → IsPlainBefore bytes from
    → IsPlainBefore bytes (from + run)
more_plain bytes from run room is before k below = either (cases_lt k from)
  where
    either : (k < from) ⊎ (from ≤ k) → is_stop (get_or bytes k 0) ≡ false
    either (inl under) = before k under
    either (inr over) = run_in_chunk_fails is_stop bytes from 32 run 0 room is k over below

pub block_plain : (bytes : List ℕ) (from run : ℕ) → from + 32 ≤ length bytes → run ≡ position_or_len is_stop (take 32 (drop from bytes)) → IsPlainBefore bytes from
    → 32 ≤ run → IsPlainBefore bytes (from + 32)
block_plain bytes from run room is before whole k below =
    more_plain bytes from run room is before k (omega (arith, run_in_chunk_le is_stop bytes from 32 run 0 room is))

pub stop_here : (bytes : List ℕ) (from run : ℕ) → from + 32 ≤ length bytes → run ≡ position_or_len is_stop (take 32 (drop from bytes)) → IsPlainBefore bytes from → run < 32
    → Some (from + run) ≡ position is_stop bytes
stop_here bytes from run room is before short =
    let at = position_or_len_is is_stop bytes (from + run) 0 (omega arith) (more_plain bytes from run room is before) (λ _. run_in_chunk_stops is_stop bytes from 32 run 0 room is short) in
    grind (arith, nat_tests)

pub no_stop : (bytes : List ℕ) → IsPlainBefore bytes (length bytes) → None ≡ position is_stop bytes
no_stop bytes plain =
    let at = position_or_len_is is_stop bytes (length bytes) 0 (omega arith) plain (λ more. absurd (omega arith)) in
    grind (arith, nat_tests)
