-- The calls on a section: for each, why it is refused and what it leaves.
use Rattle.address.specs.Convention.{Convention}
use Rattle.std.specs.Prelude.{◌≡◌, ℕ, ◌+◌, Bool, cond, not, ◌&&◌, ◌||◌, ltb, List, [], ◌∷◌, ◌++◌, length, take, ℤ, Some, None, Option, Result, ◌==◌, nat_le, nat_lt}
use Rattle.refusal.specs.declared.Reason.{Reason}
use Rattle.refusal.specs.declared.Reason.TheVariants as why
use Rattle.refusal.specs.declared.Refusal.{Refusal}
use Rattle.form.specs.declared.Form.{Form}
use Rattle.form.specs.declared.Form.TheVariants.{RiB, RiC, RilB, RilC}
use Rattle.form.specs.declared.instr.Entry.{Entry}
use Rattle.address.specs.declared.args.MemArg.{MemArg}
use Rattle.address.specs.declared.frame.Frame.{Frame}
use Rattle.address.specs.declared.access.Access.{Access}
use Rattle.form.specs.Form.{size, kinds, same_form}
use Rattle.form.specs.Encode.{takes}
use Rattle.form.specs.Instr.{bytes_of}
use Rattle.refusal.specs.Refusals.{answered, unless, Answer, Checks, ◌when◌, first_refusal, answer, refused_at}
use Rattle.refusal.specs.Tests.{any, all}
use Rattle.catalogue_law.specs.Catalogue.{misfit, catalogued, admit_refusal, admitted, put_checks}
use Rattle.field.specs.Family.{Fields, Family, serves}
use Rattle.address.specs.Address.{mode_checks, form_checks}
use Rattle.address.specs.Access.{Plan, plan, target_checks}
use Rattle.book.specs.declared.target.Slot.{Slot}
use Rattle.book.specs.declared.target.Slot.TheVariants.{Waiting as waiting, Bound as bound, GivenUp as given_up}
use Rattle.book.specs.Labels.{slot_of, is_waiting, settle_label, place_of}
use Rattle.book.specs.declared.target.Target.{Target}
use Rattle.book.specs.declared.target.Target.TheVariants.{Label as to_label}
use Rattle.address.specs.declared.access.Aimed.{Aimed}
use Rattle.address.specs.Aimed.{size_of_all, to_put, to_branch}
use Rattle.book.specs.declared.target.Use.{Use}
use Rattle.book.specs.Books.{Books, largest_buffer, most_labels, uses_full, label_checks, leaves_use}
use Rattle.settle_law.specs.Settle.{write_at, uses_refusal, patched_all}

-- what the calls work on: the catalogue, the code buffer and the section's books
pub record State : Type 0 where
  pub entries : List Entry
  pub code : List ℕ
  pub books : Books

-- a call on s that, where nothing refuses it, answers x and leaves `done`
pub record Call {X : Type 0} (refused : Option Reason) (x : X) (s done : State) (r : Result X Refusal) (t : State) : Type 0 where
  pub answers : r ≡ answer s.books.len refused x
  pub leaves : t ≡ unless refused done s

-- Opening.

abbrev pub open_refusal : Fields → Fields → List ℕ → Option Reason
open_refusal L S code =
    first_refusal
    (why.Buffer when ltb largest_buffer (length code)
    ∷ why.Kind when not (serves L && serves S)
    ∷ [])

abbrev pub empty_books : List ℕ → Books
empty_books code = record { room = length code; len = 0; labels = []; uses = [] }

-- the whole answer, at place 0
abbrev pub open_answer : Fields → Fields → List ℕ → Result Books Refusal
open_answer L S code = answer 0 (open_refusal L S code) (empty_books code)

abbrev pub opened : List Entry → List ℕ → State
opened es code = record { entries = es; code = code; books = empty_books code }

-- Writing.

-- the kind of field that a form has: 1 in four bytes, 2 in six
abbrev pub field_kind : Form → ℕ
field_kind f = cond (size f == 4) 1 2

abbrev pub use_at : ℕ → Form → Option Target → List Use
use_at at f None = []
use_at at f (Some t) = record { place = at; kind = field_kind f; target = t } ∷ []

abbrev pub written_one : State → Aimed → State
written_one s w =
    record {
      entries = s.entries;
      code = write_at s.books.len (bytes_of w.instr) s.code;
      books =
          record {
            room = s.books.room;
            len = s.books.len + size w.instr.form;
            labels = s.books.labels;
            uses = s.books.uses ++ use_at s.books.len w.instr.form w.aim;
          };
    }

abbrev pub written : State → List Aimed → State
written s [] = s
written s (w ∷ ws) = written (written_one s w) ws

abbrev pub other_buffer : State → Bool
other_buffer s = nat_lt largest_buffer (length s.code) || not (length s.code == s.books.room)

abbrev pub no_room : Books → List Aimed → Bool
no_room b ws = nat_lt b.room (b.len + size_of_all ws)

-- Decision lists. A call that is lent a buffer tries BUFFER and then its parts.

abbrev pub section_refusal : State → Checks → Option Reason
section_refusal s checks = first_refusal (why.Buffer when other_buffer s ∷ checks)

-- FULL and ROOM: of instructions that are aimed at this target, if at any
abbrev pub space_checks : Books → Option Target → List Aimed → Checks
space_checks b target ws =
    why.Full when (leaves_use target && uses_full b)
    ∷ why.Room when no_room b ws
    ∷ []

-- put: form, opcode and six operands

abbrev pub put_refusal : State → Form → ℕ → List ℤ → Option Reason
put_refusal s f o zs = section_refusal s (put_checks s.entries f o zs ++ space_checks s.books None (to_put f o zs))

abbrev pub Puts : State → Form → ℕ → List ℤ → Answer → State → Type 0
Puts s f o zs r t = Call (put_refusal s f o zs) tt s (written s (to_put f o zs)) r t

-- put to label: form, opcode, first operand and label

abbrev pub branches : Form → Bool
branches f = any (same_form f) (RiB ∷ RiC ∷ RilB ∷ RilC ∷ [])

abbrev pub branch_checks : List Entry → Form → ℕ → ℤ → Checks
branch_checks es f o z =
    why.Misfit when misfit f o
    ∷ why.Opcode when not (catalogued es f o)
    ∷ why.Operand when not (takes (take 1 (kinds f)) (z ∷ []))
    ∷ why.Form when not (branches f)
    ∷ []

abbrev pub put_to_label_refusal : State → Form → ℕ → ℤ → ℕ → Option Reason
put_to_label_refusal s f o z l =
    section_refusal s (branch_checks s.entries f o z ++ label_checks s.books.labels (Some (to_label l)) ++ space_checks s.books (Some (to_label l)) (to_branch f o z l))

abbrev pub PutsToLabel : State → Form → ℕ → ℤ → ℕ → Answer → State → Type 0
PutsToLabel s f o z l r t = Call (put_to_label_refusal s f o z l) tt s (written s (to_branch f o z l)) r t

-- access

-- MISFIT to FORM
abbrev pub plan_checks : Convention → List Entry → Plan → Checks
plan_checks C es p =
    why.Misfit when any (λ e. misfit e.form e.opcode) p.opcodes
    ∷ why.Opcode when not (all (λ e. catalogued es e.form e.opcode) p.opcodes)
    ∷ why.Operand when not p.fits
    ∷ (mode_checks C p.mode ++ form_checks p.permits p.final)

abbrev pub plan_refusal : Convention → State → Plan → Option Reason
plan_refusal C s p =
    section_refusal s (plan_checks C s.entries p ++ label_checks s.books.labels p.target ++ target_checks p ++ space_checks s.books p.target p.items)

abbrev pub access_refusal : Convention → State → Access → Bool → MemArg → Frame → Option Reason
access_refusal C s a may_trap m fr = plan_refusal C s (plan C a may_trap m fr)

abbrev pub Accesses : Convention → State → Access → Bool → MemArg → Frame → Answer → State → Type 0
Accesses C s a may_trap m fr r t = Call (access_refusal C s a may_trap m fr) tt s (written s (plan C a may_trap m fr).items) r t

-- reserve, bind, give up

abbrev pub relabelled : State → List Slot → State
relabelled s ls = record { entries = s.entries; code = s.code; books = record { room = s.books.room; len = s.books.len; labels = ls; uses = s.books.uses } }

abbrev pub reserve_refusal : State → Option Reason
reserve_refusal s = section_refusal s (why.Full when nat_le most_labels (length s.books.labels) ∷ [])

abbrev pub Reserves : State → Result ℕ Refusal → State → Type 0
Reserves s r t = Call (reserve_refusal s) (length s.books.labels) s (relabelled s (s.books.labels ++ waiting ∷ [])) r t

abbrev pub bind_refusal : State → ℕ → Option Reason
bind_refusal s l = section_refusal s (why.Label when not (is_waiting (slot_of s.books.labels l)) ∷ [])

abbrev pub Binds : State → ℕ → Answer → State → Type 0
Binds s l r t = Call (bind_refusal s l) tt s (relabelled s (settle_label s.books.labels l (bound s.books.len))) r t

abbrev pub give_up_refusal : State → Option Reason
give_up_refusal s = section_refusal s []

abbrev pub GivesUp : State → ℕ → Answer → State → Type 0
GivesUp s l r t = Call (give_up_refusal s) tt s (relabelled s (settle_label s.books.labels l given_up)) r t

-- admit, which has no section: its refusals are at place 0

abbrev pub with_entries : State → List Entry → State
with_entries s es = record { entries = es; code = s.code; books = s.books }

-- with another code buffer
abbrev pub with_code : State → List ℕ → State
with_code s code = record { entries = s.entries; code = code; books = s.books }

pub record Admits (es : List Entry) (f : Form) (o : ℕ) (r : Answer) (es' : List Entry) : Type 0 where
  pub answers : r ≡ answer 0 (admit_refusal es f o) tt
  pub leaves : es' ≡ unless (admit_refusal es f o) (admitted es f o) es

-- calls of admit lead from one catalogue to another
pub data Grows : List Entry → List Entry → Type 0 where
  same : {es : List Entry} → Grows es es
  grown : {es ds cs : List Entry} {f : Form} {o : ℕ} {r : Answer} → Grows es ds → Admits ds f o r cs → Grows es cs

-- close: every use is checked in the order recorded, then each is patched

abbrev pub close_refusal : Family → Family → State → List ℤ → Option Refusal
close_refusal L S s symbols =
    cond (other_buffer s) (Some (refused_at s.books.len why.Buffer))
    (uses_refusal L S (place_of s.books.labels symbols) s.code s.books.uses)

-- closing s answers r and leaves this code; refused, it hands s back as it was
pub record Closes (L S : Family) (s : State) (symbols : List ℤ) (r : Answer) (code : List ℕ) : Type 0 where
  pub answers : r ≡ answered (close_refusal L S s symbols) tt
  pub leaves : code ≡ unless (close_refusal L S s symbols) (patched_all L S (place_of s.books.labels symbols) s.code s.books.uses) s.code
