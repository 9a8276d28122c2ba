-- How many bytes instructions have.
use Rattle.std.proofs.Common.{◌≡◌, ◌+◌, ◌≤◌, true, leb, List, [], ◌∷◌, ◌++◌, Some, None, Option, refl, arith}
use Rattle.std.proofs.lemmas.Bool.Decides.{nat_tests}
use Rattle.form.specs.declared.Form.{Form}
use Rattle.form.specs.Form.{size}
use Rattle.form.proofs.Every.{at_each}
use Rattle.address.specs.declared.access.Aimed.{Aimed}
use Rattle.address.specs.Aimed.{size_of_all}
use Rattle.address.specs.Held.{listed}

size_small : (f : Form) → size f ≤ 6
size_small f = let h : leb (size f) 6 ≡ true = at_each (λ f. leb (size f) 6) refl f in grind (arith, nat_tests)

pub listed_small : (o : Option Aimed) → size_of_all (listed o) ≤ 6
listed_small None = omega arith
listed_small (Some w) = let h = size_small w.instr.form in omega arith

pub size_append : (xs ys : List Aimed) → size_of_all (xs ++ ys) ≡ size_of_all xs + size_of_all ys
size_append [] ys = omega arith
size_append (x ∷ xs) ys = let h = size_append xs ys in omega arith
