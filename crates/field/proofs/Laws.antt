-- What it means that a distance is accepted, and the family that overwrites its fields: it is lawful, whatever its table.
use Rattle.std.proofs.Common.{◌≡◌, ℕ, zero, suc, ◌-◌, ◌*◌, ◌^◌, ◌<◌, ◌≤◌, Bool, true, false, cond, not, ◌||◌, ltb, List, [], ◌∷◌, ◌++◌, length, take, drop, ℤ, pos, negsuc, ◌*ℤ◌, is_err, Some, None, Ok, Err, Option, Result, sym, refl, ap, ◌∙◌, subst, append_assoc, arith, length-append, length-drop, length-take-le, take_at, drop_at}
use lib.Signed.{mag, lt_z, shr_z}
use Rattle.std.specs.List.{AllByRecursion}
use Rattle.std.proofs.ByRecursion.{All-append, All-take, All-drop}
use Rattle.std.proofs.lemmas.Bool.{both_ways, or_parts, not-false, ltb-false, le-ltb}
use Rattle.refusal.specs.Refusals.{answered, unless}
use Rattle.refusal.specs.Numbers.{signed, wrap, big_endian, bytes_of_number}
use Rattle.field.specs.declared.verdict.FieldRefusal.{FieldRefusal}
use Rattle.field.specs.declared.verdict.FieldRefusal.TheVariants.{Kind, Far, Odd}
use Rattle.field.specs.Family.{◌when◌, first_refused, FieldInfo, family, field_bytes, field_value, held_by, multiple, told, refuses_by, Fits, Patches, Lawful, overwritten, refuses, held}
use Rattle.field.proofs.Numbers.{number_length, held_back}

pub never_none : {X P : Type 0} (x : X) → ◌≡◌ {A = Option X} (Some x) None → P
never_none x h = let z : ◌≡◌ {A = ℕ} 0 1 = cc in absurd (omega arith)

pub same_some : {X : Type 0} {x y : X} → ◌≡◌ {A = Option X} (Some x) (Some y) → x ≡ y
same_some h = cc

-- the kind that a family has told of
pub told_some : (o : Option FieldInfo) (i : FieldInfo) → ◌≡◌ {A = Result FieldInfo FieldRefusal} (told (λ j. j) o) (Ok i) → o ≡ Some i
told_some None i e = let z : ◌≡◌ {A = ℕ} 0 1 = cc in absurd (omega arith)
told_some (Some j) i e = cc

-- a list of tests that refuses nothing
pub none_refused : (ts : List (FieldRefusal × Bool)) → first_refused ts ≡ None → AllByRecursion (λ t. t.1 ≡ false) ts
none_refused [] e = tt
none_refused (t ∷ ts) e = go t.1 refl e (none_refused ts)
  where
    go : (b : Bool) → t.1 ≡ b → cond b (Some t.0) (first_refused ts) ≡ None → (first_refused ts ≡ None → AllByRecursion (λ t. t.1 ≡ false) ts) → (t.1 ≡ false) × AllByRecursion (λ t. t.1 ≡ false) ts
    go true p e h = never_none t.0 e
    go false p e h = (p, h e)

-- what an accepted distance is
pub record Accepted (a : ℕ) (i : FieldInfo) (n : ℕ) (d : ℤ) : Type 0 where
  pub enough : i.size ≤ n
  pub not_below : lt_z d i.least ≡ false
  pub not_above : lt_z i.greatest d ≡ false
  pub even : multiple a d ≡ true

pub accepted : (a : ℕ) (i : FieldInfo) (n : ℕ) (d : ℤ) → refuses_by a (Some i) n d ≡ None → Accepted a i n d
accepted a i n d h =
    let t = none_refused (Kind when ltb n i.size ∷ Far when (lt_z d i.least || lt_z i.greatest d) ∷ Odd when not (multiple a d) ∷ []) h in
    let r = or_parts (lt_z d i.least) (lt_z i.greatest d) t.1.0 in
    record { enough = ltb-false n i.size t.0; not_below = r.0; not_above = r.1; even = not-false (multiple a d) t.1.1.0 }

-- between two numbers that are near zero
pub near : (least greatest d : ℤ) (h : ℕ) → mag least < h → mag greatest < h → lt_z d least ≡ false → lt_z greatest d ≡ false → mag d < h
near least (pos g) (pos n) h p q l u = let e = ltb-false g n u in omega arith
near (negsuc k) greatest (negsuc n) h p q l u = let e = ltb-false k n l in omega arith
near least (negsuc g) (pos n) h p q l u = absurd (both_ways true u refl)
near (pos k) greatest (negsuc n) h p q l u = absurd (both_ways true l refl)

number_bytes : (n v : ℕ) → AllByRecursion (λ b. b < 256) (bytes_of_number n v)
number_bytes zero v = tt
number_bytes (suc n) v = (omega arith, number_bytes n v)

-- what overwriting a field does, whatever was in it
record Over (a : ℕ) (i : FieldInfo) (d : ℤ) (old new : List ℕ) : Type 0 where
  same_length : length new ≡ length old
  before : take i.first new ≡ take i.first old
  after : drop i.past new ≡ drop i.past old
  value : pos a *ℤ field_value i new ≡ d

over : (a : ℕ) (i : FieldInfo) (d : ℤ) (bytes : List ℕ) → 1 ≤ a → Fits a i → Accepted a i (length bytes) d → Over a i d bytes (overwritten a (Some i) bytes d)
over a i d bytes one fit ok =
    record {
      same_length = let x = front_length in let y = num_length in simp (length-append, length-drop) (omega arith);
      before = ap (take i.first) whole ∙ take_at (take i.first bytes) (num ++ drop i.past bytes) i.first front_length;
      after = drop_at (take i.first bytes ++ num) (drop i.past bytes) i.past (length-append (take i.first bytes) num ∙ let x = front_length in let y = num_length in omega arith);
      value = ap (λ (x : List ℕ). pos a *ℤ signed (8 * (i.past - i.first)) (big_endian 0 x)) field ∙ held_back a (i.past - i.first) d one (let s = fit.some in omega arith) small ok.even;
    }
  where
    v : ℕ
    v = wrap (8 * (i.past - i.first)) (shr_z d a)

    num : List ℕ
    num = bytes_of_number (i.past - i.first) v

    small : mag d < 2 ^ (8 * (i.past - i.first) - 1) * a
    small = near i.least i.greatest d (2 ^ (8 * (i.past - i.first) - 1) * a) fit.low fit.high ok.not_below ok.not_above

    ordered : (i.first < i.past) × (i.past ≤ length bytes)
    ordered = (fit.some, (let x = fit.shape.inside in let y = ok.enough in omega arith))

    front_length : length (take i.first bytes) ≡ i.first
    front_length = length-take-le i.first bytes (let a = ordered.0 in let b = ordered.1 in omega arith)

    num_length : length num ≡ i.past - i.first
    num_length = number_length (i.past - i.first) v

    whole : overwritten a (Some i) bytes d ≡ take i.first bytes ++ (num ++ drop i.past bytes)
    whole = append_assoc (take i.first bytes) num (drop i.past bytes)

    field : field_bytes i (overwritten a (Some i) bytes d) ≡ num
    field =
        ap (λ (x : List ℕ). take (i.past - i.first) (drop i.first x)) whole
        ∙ ap (take (i.past - i.first)) (drop_at (take i.first bytes) (num ++ drop i.past bytes) i.first front_length)
        ∙ take_at num (drop i.past bytes) (i.past - i.first) num_length

overwrites : (a : ℕ) (i : FieldInfo) (d : ℤ) (bytes : List ℕ) → 1 ≤ a → Fits a i → AllByRecursion (λ b. b < 256) bytes → Accepted a i (length bytes) d → Patches a i d bytes (overwritten a (Some i) bytes d)
overwrites a i d bytes one fit k ok =
    let o = over a i d bytes one fit ok in
    let n : ℕ = i.past - i.first in
    let num : List ℕ = bytes_of_number n (wrap (8 * n) (shr_z d a)) in
    record {
      same_length = o.same_length;
      before = o.before;
      after = o.after;
      bytes =
          All-append (λ b. b < 256) (take i.first bytes ++ num) (drop i.past bytes)
          (All-append (λ b. b < 256) (take i.first bytes) num (All-take (λ b. b < 256) i.first bytes k) (number_bytes n (wrap (8 * n) (shr_z d a))))
          (All-drop (λ b. b < 256) i.past bytes k);
      holds = λ z. o.value;
    }

-- A family reads back what overwriting has left.
pub overwritten_held : (a : ℕ) (i : FieldInfo) (d : ℤ) (bytes : List ℕ) → 1 ≤ a → Fits a i → Accepted a i (length bytes) d → held_by a (Some i) (overwritten a (Some i) bytes d) ≡ Ok d
overwritten_held a i d bytes one fit ok =
    let o = over a i d bytes one fit ok in
    let e = o.same_length in
    let w = ok.enough in
    let b : ltb (length (overwritten a (Some i) bytes d)) i.size ≡ false = le-ltb (length (overwritten a (Some i) bytes d)) i.size (omega arith) in
    rw b (ap Ok o.value)

-- A family that overwrites its fields.
pub overwriting : (a : ℕ) (table : ℕ → Option FieldInfo) → 1 ≤ a → ((k : ℕ) (i : FieldInfo) → table k ≡ Some i → Fits a i) → Lawful (family (record { align = a; table = table }) (λ k. overwritten a (table k)))
overwriting a table one fits =
    record {
      reads = record { aligned = one; shaped = λ k i e. (fits k i e).shape };
      patches = λ k i bytes d bs e ok.
          subst (λ (o : Option FieldInfo). Patches a i d bytes (overwritten a o bytes d)) (sym e)
          (overwrites a i d bytes one (fits k i e) bs (accepted a i (length bytes) d (subst (λ (o : Option FieldInfo). refuses_by a o (length bytes) d ≡ None) e ok)));
    }

-- It reads back what it has written.
pub overwriting_held : (a : ℕ) (table : ℕ → Option FieldInfo) (k : ℕ) (i : FieldInfo) (bytes : List ℕ) (d : ℤ) → 1 ≤ a → table k ≡ Some i → Fits a i → refuses (record { align = a; table = table }) k (length bytes) d ≡ None
    → (new : List ℕ) → new ≡ overwritten a (table k) bytes d → held (record { align = a; table = table }) k new ≡ Ok d
overwriting_held a table k i bytes d one t fit none new e =
    let r : refuses_by a (Some i) (length bytes) d ≡ None = subst (λ (o : Option FieldInfo). refuses_by a o (length bytes) d ≡ None) t none in
    ap (held (record { align = a; table = table }) k) e
    ∙ ap (λ (o : Option FieldInfo). held_by a o (overwritten a o bytes d)) t
    ∙ overwritten_held a i d bytes one fit (accepted a i (length bytes) d r)

-- A patch that is refused.

pub not_accepted : {P : Type 0} (r : Result (Unit {0}) FieldRefusal) → is_err r ≡ true → r ≡ Ok tt → P
not_accepted r e h = absurd (both_ways (is_err r) (ap is_err h) e)

refused_some : (o : Option FieldRefusal) {X : Type 0} (x : X) (e : FieldRefusal) → ◌≡◌ {A = Result X FieldRefusal} (Err e) (answered o x) → o ≡ Some e
refused_some None x e h = let z : ◌≡◌ {A = ℕ} 0 1 = cc in absurd (omega arith)
refused_some (Some r) x e h = let k : r ≡ e = cc in ap Some k

pub refused_leaves : (o : Option FieldRefusal) {X : Type 0} (x : X) (e : FieldRefusal) → ◌≡◌ {A = Result X FieldRefusal} (Err e) (answered o x) → (done found : List ℕ) → found ≡ unless o done found
refused_leaves o x e h done found = sym (ap (λ (q : Option FieldRefusal). unless q done found) (refused_some o x e h))
