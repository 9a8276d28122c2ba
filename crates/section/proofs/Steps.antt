-- Steps of calls, from what the functions below them answer.
use Rattle.std.proofs.Common.{◌≡◌, ℕ, zero, suc, ◌+◌, ◌≤◌, Bool, true, false, cond, not, ◌&&◌, ◌||◌, eqb, ltb, List, [], ◌∷◌, ◌++◌, length, take, replicate, ℤ, pos, is_some, Some, None, Ok, Err, Option, Result, MatchResult, IsErrAnd, sym, refl, ap, ◌∙◌, subst, arith}
use Rattle.std.proofs.lemmas.Bool.{eqb-true, le-ltb}
use Rattle.refusal.specs.declared.Reason.{Reason}
use Rattle.refusal.specs.declared.Reason.TheVariants as why
use Rattle.refusal.specs.declared.Refusal.{Refusal}
use Rattle.refusal.specs.Refusals.{Checks, ◌when◌, first_refusal, answer, refused_at}
use Rattle.form.specs.declared.Form.{Form}
use Rattle.form.specs.declared.OperandKind.{OperandKind}
use Rattle.form.specs.declared.OperandKind.TheVariants.{G, N, V, F, M, U8, U16, U32, S16, D12, D20, H16, H32}
use Rattle.form.specs.declared.instr.Entry.{Entry}
use Rattle.form.specs.Form.{size, kinds}
use Rattle.form.specs.Encode.{In, encode, six, takes}
use Rattle.catalogue_law.specs.Catalogue.{misfit, catalogued, put_checks}
use Rattle.codec.proofs.Sums.{few_kinds}
use Rattle.form.specs.declared.instr.Instr.{Instr}
use Rattle.form.specs.Instr.{bytes_of, instr}
use Rattle.catalogue_law.proofs.Basics.{ok_err, differ, not_refused}
use Rattle.catalogue_law.proofs.Encoding.{encode_length}
use Rattle.book.specs.declared.target.Target.{Target}
use Rattle.book.specs.Books.{leaves_use}
use Rattle.settle_law.specs.Settle.{first_of}
use Rattle.address.specs.declared.access.Aimed.{Aimed}
use Rattle.law.specs.Section.{State, Call, written, written_one, other_buffer, section_refusal, open_answer, open_refusal, empty_books}
use Rattle.field.specs.Family.{Fields, serves}
use Rattle.section.specs.Extended.{extended}

-- nothing refused it
pub accepted : {X : Type 0} (o : Option Reason) (x : X) (s done t : State) {u : X} → Ok u ≡ answer s.books.len o x → t ≡ done → Call o x s done (Ok x) t
accepted None x s done t h e = record { answers = refl; leaves = e }
accepted (Some r) x s done t h e = absurd (ok_err refl h)

-- a call that leaves the buffer's length leaves it also where it is refused
pub keeps_room : {X : Type 0} (o : Option Reason) {x : X} {s done : State} {r : Result X Refusal} {t : State} → Call o x s done r t → done.books.room ≡ s.books.room
    → t.books.room ≡ s.books.room
keeps_room None c h = ap (λ (t : State). t.books.room) c.leaves ∙ h
keeps_room (Some e) c h = ap (λ (t : State). t.books.room) c.leaves

pub written_room : (s : State) (ws : List Aimed) → (written s ws).books.room ≡ s.books.room
written_room s [] = refl
written_room s (w ∷ ws) = written_room (written_one s w) ws

pub aimed_is : (a : Option Target) → is_some a ≡ leaves_use a
aimed_is None = refl
aimed_is (Some t) = refl

-- the first test of two lists
either : {X : Type 0} (b : Bool) (x : X) (o p q : Option X) → p ≡ first_of o q → cond b (Some x) p ≡ first_of (cond b (Some x) o) q
either true x o p q h = refl
either false x o p q h = h

pub first_append : (cs ds : Checks) → first_refusal (cs ++ ds) ≡ first_of (first_refusal cs) (first_refusal ds)
first_append [] ds = refl
first_append (c ∷ cs) ds = either c.1 c.0 (first_refusal cs) (first_refusal (cs ++ ds)) (first_refusal ds) (first_append cs ds)

-- the first tests refused it
pub stopped : {X Y : Type 0} (cs ds : Checks) (x : X) (y : Y) (s done : State) (e : Refusal) → Err e ≡ answer s.books.len (first_refusal cs) y → Call (first_refusal (cs ++ ds)) x s done (Err e) s
stopped {X} {Y} cs ds x y s done e h = subst (λ (o : Option Reason). Call o x s done (Err e) s) (sym (first_append cs ds)) (go (first_refusal cs) h)
  where
    go : (o : Option Reason) → Err e ≡ answer s.books.len o y → Call (first_of o (first_refusal ds)) x s done (Err e) s
    go None k = absurd (ok_err refl (sym k))
    go (Some r) k = let q : e ≡ refused_at s.books.len r = cc in record { answers = ap (λ (z : Refusal). Err z) q; leaves = refl }

-- the first tests refused nothing, so the rest decide
pub passed : {X : Type 0} (cs ds : Checks) (x : X) (s done : State) {r : Result X Refusal} {t : State} → first_refusal cs ≡ None → Call (first_refusal ds) x s done r t → Call (first_refusal (cs ++ ds)) x s done r t
passed cs ds x s done {r} {t} h c = subst (λ (o : Option Reason). Call o x s done r t) (sym (first_append cs ds ∙ ap (λ (o : Option Reason). first_of o (first_refusal ds)) h)) c

pub answered_is : {X : Type 0} {y : X} (at : ℕ) (x : X) (o : Option Reason) → Ok y ≡ answer at o x → y ≡ x
answered_is at x None e = cc
answered_is at x (Some r) e = absurd (ok_err refl e)

-- one instruction more

abbrev pub item : Form → ℕ → List ℤ → Option Target → Aimed
item f o zs aim = record { instr = record { form = f; opcode = o; operands = zs }; aim = aim }

pub one_more : (s : State) (f : Form) (o : ℕ) (zs : List ℤ) (aim : Option Target) → extended s (encode f o zs) aim ≡ written s (item f o zs aim ∷ [])
one_more s f o zs None = rw (encode_length f o zs) refl
one_more s f o zs (Some t) = rw (encode_length f o zs) refl

-- the buffer is the section's

same : (a b : Bool) → (a || not b) ≡ false → b ≡ true
same false true h = refl
same false false h = absurd (differ refl h)
same true b h = absurd (differ refl h)

pub ours : (s : State) → other_buffer s ≡ false → length s.code ≡ s.books.room
ours s h = eqb-true (length s.code) s.books.room (same (ltb 1048576 (length s.code)) (eqb (length s.code) s.books.room) h)

past_buffer : {X : Type 0} (s : State) (cs : Checks) (x : X) (done : State) {r : Result X Refusal} {t : State} → other_buffer s ≡ false → Call (first_refusal cs) x s done r t → Call (section_refusal s cs) x s done r t
past_buffer s cs x done {r} {t} h c = subst (λ (b : Bool). Call (cond b (Some why.Buffer) (first_refusal cs)) x s done r t) (sym h) c

-- the catalogue refused it
pub not_written : {X Y : Type 0} (s : State) (cs ds : Checks) (x : X) (y : Y) (done : State) (e : Refusal) → other_buffer s ≡ false → Err e ≡ answer s.books.len (first_refusal cs) y → Call (section_refusal s (cs ++ ds)) x s done (Err e) s
not_written s cs ds x y done e b h = past_buffer s (cs ++ ds) x done b (stopped cs ds x y s done e h)

-- the catalogue gave its bytes, and the rest decides
pub one_written : (s : State) (f : Form) (o : ℕ) (zs : List ℤ) (aim : Option Target) (cs : Checks) (ds : ℕ → Checks) (e : List ℕ) {r : Result (Unit {0}) Refusal} {t : State}
    → other_buffer s ≡ false → Ok e ≡ answer s.books.len (first_refusal cs) (encode f o zs)
    → Call (first_refusal (ds (length e))) tt s (extended s e aim) r t
    → Call (section_refusal s (cs ++ ds (size f + 0))) tt s (written s (item f o zs aim ∷ [])) r t
one_written s f o zs aim cs ds e {r} {t} b h c =
    let l = encode_length f o zs in
    let z : length (encode f o zs) ≡ size f + 0 = omega (arith, l) in
    let q = answered_is s.books.len (encode f o zs) (first_refusal cs) h in
    let c1 = subst (λ (k : List ℕ). Call (first_refusal (ds (length k))) tt s (extended s k aim) r t) q c in
    let c2 = subst (λ (n : ℕ). Call (first_refusal (ds n)) tt s (extended s (encode f o zs) aim) r t) z c1 in
    let c3 = subst (λ (d : State). Call (first_refusal (ds (size f + 0))) tt s d r t) (one_more s f o zs aim) c2 in
    past_buffer s (cs ++ ds (size f + 0)) tt (written s (item f o zs aim ∷ [])) b
    (passed cs (ds (size f + 0)) tt s (written s (item f o zs aim ∷ [])) (not_refused s.books.len (encode f o zs) (first_refusal cs) h) c3)

-- two tests refused nothing
pub past_two : {X : Type 0} (a b : Bool) (p q : Reason) (o : Option Reason) (x : X) (s done : State) {r : Result X Refusal} {t : State} → true ≡ a → true ≡ b → Call o x s done r t
    → Call (cond (not a) (Some p) (cond (not b) (Some q) o)) x s done r t
past_two a b p q o x s done {r} {t} h k c =
    subst (λ (z : Bool). Call (cond (not z) (Some p) (cond (not b) (Some q) o)) x s done r t) h
    (subst (λ (z : Bool). Call (cond (not z) (Some q) o) x s done r t) k c)

-- a branch's other operands are 0, which is of every kind

zero_in : (k : OperandKind) → In k (pos 0) ≡ true
zero_in G = refl
zero_in N = refl
zero_in V = refl
zero_in F = refl
zero_in M = refl
zero_in U8 = refl
zero_in U16 = refl
zero_in U32 = refl
zero_in S16 = refl
zero_in D12 = refl
zero_in D20 = refl
zero_in H16 = refl
zero_in H32 = refl

zeros_taken : (ks : List OperandKind) (n : ℕ) → length ks ≤ n → takes ks (replicate n (pos 0)) ≡ true
zeros_taken [] zero h = refl
zeros_taken [] (suc n) h = zeros_taken [] n (omega arith)
zeros_taken (k ∷ ks) zero h = absurd (omega arith)
zeros_taken (k ∷ ks) (suc n) h = rw (zero_in k) (zeros_taken ks n (omega arith))

takes_first_of : (ks : List OperandKind) (z : ℤ) → length ks ≤ 6 → takes ks (six (z ∷ [])) ≡ takes (take 1 ks) (z ∷ [])
takes_first_of [] z h = refl
takes_first_of (k ∷ ks) z h = ap (λ (b : Bool). In k z && b) (zeros_taken ks 5 (omega arith))

abbrev pub first_checks : List Entry → Form → ℕ → ℤ → Checks
first_checks es f o z = why.Misfit when misfit f o ∷ why.Opcode when not (catalogued es f o) ∷ why.Operand when not (takes (take 1 (kinds f)) (z ∷ [])) ∷ []

by_first : {X : Type 0} (es : List Entry) (f : Form) (o : ℕ) (z : ℤ) (at : ℕ) (y : X) {r : Result X Refusal} → r ≡ answer at (first_refusal (put_checks es f o (six (z ∷ [])))) y → r ≡ answer at (first_refusal (first_checks es f o z)) y
by_first es f o z at y {r} h =
    subst (λ (t : Bool). r ≡ answer at (first_refusal (why.Misfit when misfit f o ∷ why.Opcode when not (catalogued es f o) ∷ why.Operand when not t ∷ [])) y)
    (takes_first_of (kinds f) z (few_kinds f)) h

pub by_lone : (es : List Entry) (f : Form) (o : ℕ) (z : ℤ) (at : ℕ) (i : Instr) {r : Result (List ℕ) Refusal} → i ≡ instr f o (z ∷ [])
    → r ≡ answer at (first_refusal (put_checks es i.form i.opcode i.operands)) (bytes_of i) → r ≡ answer at (first_refusal (first_checks es f o z)) (encode f o (six (z ∷ [])))
by_lone es f o z at i {r} e h =
    by_first es f o z at (encode f o (six (z ∷ []))) (subst (λ (j : Instr). r ≡ answer at (first_refusal (put_checks es j.form j.opcode j.operands)) (bytes_of j)) e h)

pub too_long : (L S : Fields) (code : List ℕ) → ltb 1048576 (length code) ≡ true → Err (refused_at 0 why.Buffer) ≡ open_answer L S code
too_long L S code h =
    subst (λ (b : Bool). Err (refused_at 0 why.Buffer) ≡ answer 0 (cond b (Some why.Buffer) (first_refusal (why.Kind when not (serves L && serves S) ∷ []))) (empty_books code)) (sym h) refl

pub nothing_refuses : (L S : Fields) (code : List ℕ) → length code ≤ 1048576 → (serves L && serves S) ≡ true → open_refusal L S code ≡ None
nothing_refuses L S code h b = rw (le-ltb 1048576 (length code) h, b) refl

-- want of memory, whose reason was given its place
pub memory_at : {X : Type 0} (P : X → Type 0) {Q : Reason → Refusal → Type 0} (r : Result X Reason) (q : Refusal) {out : Result X Refusal}
    → MatchResult r P (λ e. e ≡ why.Memory) → MatchResult r (λ x. out ≡ Ok x) (λ e. IsErrAnd out (Q e)) → ((e : Reason) (q : Refusal) → Q e q → q ≡ refused_at 0 e) → out ≡ Err q
    → q ≡ refused_at 0 why.Memory
memory_at P (Ok x) q m h k o = absurd (ok_err h o)
memory_at P {Q = Q} (Err e) q m h k o = k e q (subst (λ z. IsErrAnd z (Q e)) o h) ∙ ap (refused_at 0) m
