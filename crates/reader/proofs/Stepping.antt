-- Where a reader stands after a step.
use Rattle.std.proofs.Common.{◌≡◌, ℕ, zero, suc, ◌+◌, ◌-◌, ◌<◌, ◌≤◌, List, [], ◌∷◌, length, take, drop, Some, None, Ok, Err, Option, Result, refl, ap, ◌∙◌, add-zero, arith, length-drop, take_all}
use Rattle.refusal.specs.declared.Refusal.{Refusal}
use Rattle.form.specs.declared.instr.Entry.{Entry}
use Rattle.form.specs.declared.instr.Placed.{Placed}
use Rattle.catalogue_law.specs.Catalogue.{read_rest, read_step, place_after}
use Rattle.catalogue.specs.Listed.{taken}

drop_past : (xs : List ℕ) (i : ℕ) → length xs ≤ i → drop i xs ≡ []
drop_past [] zero h = refl
drop_past [] (suc i) h = refl
drop_past (x ∷ xs) zero h = absurd (omega arith)
drop_past (x ∷ xs) (suc i) h = drop_past xs i (omega arith)

-- behind the end there is none
pub none_past : (es : List Entry) (code : List ℕ) (at : ℕ) → length code < at → (Ok None, at) ≡ read_step es code at
none_past es code at h = let e : drop at code ≡ [] = drop_past code at (omega arith) in rw e

after_taken : (at : ℕ) (r : Result (Option Placed) Refusal) → at + taken r ≡ place_after at r
after_taken at (Ok None) = add-zero at
after_taken at (Ok (Some i)) = omega arith
after_taken at (Err e) = add-zero at

-- what is left of the code, as a part of it
part_is : (code : List ℕ) (at : ℕ) → take (length code - at) (drop at code) ≡ drop at code
part_is code at = take_all (length code - at) (drop at code) (simp length-drop (omega arith))

pub no_longer : (code rest : List ℕ) (at n : ℕ) → rest ≡ drop n (take (length code - at) (drop at code)) → length rest ≤ length code
no_longer code rest at n f =
    let k : length rest ≡ length (drop at code) - n = ap length (f ∙ ap (drop n) (part_is code at)) ∙ length-drop n (drop at code) in
    let m = length-drop at code in
    omega arith

-- a step, from the bytes that are left
pub stepped : (es : List Entry) (code rest : List ℕ) (at : ℕ) (r : Result (Option Placed) Refusal) → at ≤ length code
    → r ≡ read_rest es at (take (length code - at) (drop at code)) → rest ≡ drop (taken r) (take (length code - at) (drop at code)) → taken r ≤ length (take (length code - at) (drop at code))
    → (r, length code - length rest) ≡ read_step es code at
stepped es code rest at r h e f w =
    let k = part_is code at in
    let n : length rest ≡ length (drop at code) - taken r = ap length (f ∙ ap (drop (taken r)) k) ∙ length-drop (taken r) (drop at code) in
    let m = length-drop at code in
    let v : taken r ≤ length (drop at code) = rw k at w in
    let p : length code - length rest ≡ at + taken r = omega arith in
    ap (λ (q : ℕ). (r, q)) (p ∙ after_taken at r) ∙ ap (λ (x : Result (Option Placed) Refusal). (x, place_after at x)) (e ∙ ap (read_rest es at) k)
