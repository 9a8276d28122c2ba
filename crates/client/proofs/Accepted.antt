-- Each call of the routine is accepted.
use Rattle.std.proofs.Common.{◌≡◌, ℕ, false, List, [], ◌∷◌, length, take, replicate, pos, None, Ok, Result, sym, refl, ap, ◌∙◌, subst, arith}
use Rattle.std.proofs.lemmas.List.{take_all}
use Rattle.refusal.specs.declared.Refusal.{Refusal}
use Rattle.refusal.specs.Refusals.{Answer}
use Rattle.form.specs.declared.Form.TheVariants.{RiC, Rr}
use Rattle.operand.specs.Registers.{gpr}
use Rattle.address.specs.Convention.{standard}
use Rattle.field.specs.Family.{label_family, relocation_family}
use Rattle.law.specs.Section.{State, Call, Puts, PutsToLabel, Accesses, Reserves, Binds, Closes, same}
use Rattle.law.specs.Inventory.{put}
use Rattle.law.specs.Law.{Run, done, then, Opens, Promises}
use Rattle.client.specs.Routine.{routine_entries, routine_bytes}
use Rattle.client.specs.Calls.{load, word, no_frame, return_operands, routine_events, at_start, reserved, branched, loaded, bound_there, routine_state}

-- nothing refuses the call
pub record Taken {X : Type 0} (x : X) (done : State) (r : Result X Refusal) (t : State) : Type 0 where
  pub answers : r ≡ Ok x
  pub leaves : t ≡ done

taken : {X : Type 0} {x : X} {s done : State} {r : Result X Refusal} {t : State} → Call None x s done r t → Taken x done r t
taken c = record { answers = c.answers; leaves = c.leaves }

reserves : {s t : State} {r : Result ℕ Refusal} → s ≡ at_start → Reserves s r t → Taken 0 reserved r t
reserves {s} {t} {r} e h = taken (subst (λ (q : State). Reserves q r t) e h)

branches : {s t : State} {r : Answer} → s ≡ reserved → PutsToLabel s RiC 0xA74 (pos 8) 0 r t → Taken tt branched r t
branches {s} {t} {r} e h = taken (subst (λ (q : State). PutsToLabel q RiC 0xA74 (pos 8) 0 r t) e h)

loads : {s t : State} {r : Answer} → s ≡ branched → Accesses standard s load false word no_frame r t → Taken tt loaded r t
unfolding gpr
loads {s} {t} {r} e h = taken (subst (λ (q : State). Accesses standard q load false word no_frame r t) e h)

binds : {s t : State} {r : Answer} → s ≡ loaded → Binds s 0 r t → Taken tt bound_there r t
binds {s} {t} {r} e h = taken (subst (λ (q : State). Binds q 0 r t) e h)

puts : {s t : State} {r : Answer} → s ≡ bound_there → Puts s Rr 0x07 return_operands r t → Taken tt routine_state r t
puts {s} {t} {r} e h = taken (subst (λ (q : State). Puts q Rr 0x07 return_operands r t) e h)

pub first_label : {s t : State} {r : Result ℕ Refusal} → s ≡ at_start → Reserves s r t → r ≡ Ok 0
first_label e h = (reserves e h).answers

-- up to binding the label
pub record Bound (s : State) (branch load bind : Answer) (t : State) : Type 0 where
  pub branch_taken : branch ≡ Ok tt
  pub load_taken : load ≡ Ok tt
  pub bind_taken : bind ≡ Ok tt
  pub leaves : t ≡ bound_there
  pub goes_on : {u : State} → Run standard label_family relocation_family t (put Rr 0x07 return_operands (Ok tt) ∷ []) u → Run standard label_family relocation_family s routine_events u

run_to_bind : {s s1 s2 s3 t u : State} → Reserves s (Ok 0) s1 → PutsToLabel s1 RiC 0xA74 (pos 8) 0 (Ok tt) s2 → Accesses standard s2 load false word no_frame (Ok tt) s3 → Binds s3 0 (Ok tt) t
    → Run standard label_family relocation_family t (put Rr 0x07 return_operands (Ok tt) ∷ []) u → Run standard label_family relocation_family s routine_events u
run_to_bind a b c d rest = then a (then b (then c (then d rest)))

pub up_to_bind : {s s1 s2 s3 t : State} {l p : ℕ} {q : Result ℕ Refusal} {branch load_answer bind_answer : Answer} → s ≡ at_start → q ≡ Ok p → l ≡ p → Reserves s q s1
    → PutsToLabel s1 RiC 0xA74 (pos 8) l branch s2 → Accesses standard s2 load false word no_frame load_answer s3 → Binds s3 p bind_answer t → Bound s branch load_answer bind_answer t
up_to_bind {s} {s1} {s2} {s3} {t} {l} {p} {q} {branch} {load_answer} {bind_answer} e k number_is a b c d =
    let a' = reserves e a in
    let zero : p ≡ 0 = number (sym k ∙ a'.answers) in
    let b' = subst (λ (n : ℕ). PutsToLabel s1 RiC 0xA74 (pos 8) n branch s2) (number_is ∙ zero) b in
    let d' = subst (λ (n : ℕ). Binds s3 n bind_answer t) zero d in
    let tb = branches a'.leaves b' in
    let tc = loads tb.leaves c in
    let td = binds tc.leaves d' in
    record {
      branch_taken = tb.answers;
      load_taken = tc.answers;
      bind_taken = td.answers;
      leaves = td.leaves;
      goes_on =
          run_to_bind (subst (λ (x : Result ℕ Refusal). Reserves s x s1) a'.answers a) (subst (λ (x : Answer). PutsToLabel s1 RiC 0xA74 (pos 8) 0 x s2) tb.answers b')
          (subst (λ (x : Answer). Accesses standard s2 load false word no_frame x s3) tc.answers c) (subst (λ (x : Answer). Binds s3 0 x t) td.answers d');
    }
  where
    number : {m n : ℕ} → ◌≡◌ {A = Result ℕ Refusal} (Ok m) (Ok n) → m ≡ n
    number h = cc

-- all of it
pub record Emitted (s : State) (r : Answer) (t : State) : Type 0 where
  pub accepted : r ≡ Ok tt
  pub leaves : t ≡ routine_state
  pub run : Run standard label_family relocation_family s routine_events t

pub emitted : {s m t : State} {branch load_answer bind_answer r : Answer} → Bound s branch load_answer bind_answer m → Puts m Rr 0x07 return_operands r t → Emitted s r t
emitted {s} {m} {t} {r = r} b h =
    let k = puts b.leaves h in
    record {
      accepted = k.answers;
      leaves = k.leaves;
      run = b.goes_on (then (refl, subst (λ (x : Answer). Puts m Rr 0x07 return_operands x t) k.answers h) done);
    }

pub closes : {s : State} {r : Answer} {code : List ℕ} → s ≡ routine_state → Closes label_family relocation_family s (pos 16 ∷ []) r code → r ≡ Ok tt
closes {s} {r} {code} e h = let k = subst (λ (q : State). Closes label_family relocation_family q (pos 16 ∷ []) r code) e h in k.answers

-- what closing promises of the run is the routine's bytes
pub finished : {s t : State} {code : List ℕ} → s ≡ at_start → t ≡ routine_state → Run standard label_family relocation_family s routine_events t
    → Promises standard label_family relocation_family t (pos 16 ∷ []) code → length code ≡ 12 → code ≡ routine_bytes
finished {s} {t} {code} e d run promised long =
    let from : Run standard label_family relocation_family at_start routine_events t = subst (λ (q : State). Run standard label_family relocation_family q routine_events t) e run in
    let twelve : t.books.len ≡ 12 = ap (λ (q : State). q.books.len) d in
    let opens : Opens label_family relocation_family at_start = record { entries = routine_entries; code = replicate 12 0; catalogue = refl; accepted = refl; leaves = refl } in
    let spelled = (promised at_start routine_events t.entries opens from same).spells in
    sym (spelled ∙ ap (λ (n : ℕ). take n code) twelve ∙ take_all 12 code (omega (arith, long)))
