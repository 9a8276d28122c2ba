-- One patch in the code.
use Rattle.std.proofs.Common.{◌≡◌, ℕ, ◌+◌, ◌-◌, ◌<◌, ◌≤◌, min, ◌⊎◌, List, ◌++◌, length, get_or, take, drop, sym, refl, ap, ◌∙◌, subst, ⊎_elim, arith, length-drop, length-take, get_or-drop, get_or-take, rules}
use native.Mathlib.Decide.{dec_le, dec_lt}
use borrow.Rule.Slice.PartMut.{put_mid}
use Rattle.std.specs.List.{between}
use lib.Seq.{paste}
use Rattle.std.proofs.lemmas.List.{same_lists, get_or_default, nil_from_length, places, append-nil, take-append-drop}
use Rattle.std.proofs.lemmas.Slice.{put_mid-paste, take-put_mid_below, drop-put_mid, between-put_mid}
use Rattle.settle_law.specs.Settle.{write_at}

pub record Spliced (s n : ℕ) (old new part : List ℕ) : Type 0 where
  pub same : length new ≡ length old
  pub before : take s new ≡ take s old
  pub after : drop (s + n) new ≡ drop (s + n) old
  pub inside : between s (s + n) new ≡ part

pub between_length : (s n : ℕ) (xs : List ℕ) → length (between s (s + n) xs) ≡ min n (length xs - s)
between_length s n xs =
    let e : s + n - s ≡ n = omega arith in
    simp (length-take, length-drop) (ap (λ (k : ℕ). min k (length xs - s)) e)

paste_none : (code ys : List ℕ) (m n : ℕ) → n ≡ 0 → paste code m ys n ≡ code
paste_none code ys m n h =
    ap (paste code m ys) h
    ∙ (let e : m + 0 ≡ m = omega arith in
    ap (λ (k : ℕ). take m code ++ take 0 ys ++ drop k code) e ∙ ap (λ (z : List ℕ). z ++ drop m code) (append-nil (take m code)) ∙ take-append-drop m code)

inside_code : (s n : ℕ) (code part : List ℕ) → s + n ≤ length code → length part ≡ n → Spliced s n code (write_at s part code) part
inside_code s n code part h l =
    let k : ℕ = s + n - s in
    let ek : length part ≡ k = omega arith in
    let e : put_mid s k code part ≡ write_at s part code = put_mid-paste s k code part part (length part) refl ek refl in
    subst (λ (z : List ℕ). Spliced s n code z part) e
    (record {
      same = search (rules, places);
      before = take-put_mid_below s k code part s (omega arith) (omega arith);
      after = drop-put_mid s k code part (s + n) (omega arith) (omega arith) ek;
      inside = between-put_mid s k code part (s + n) (omega arith) ek;
    })

both_nil : (xs ys : List ℕ) → length xs ≡ 0 → length ys ≡ 0 → xs ≡ ys
both_nil xs ys h k = nil_from_length xs h ∙ sym (nil_from_length ys k)

pub spliced : (s n : ℕ) (code part : List ℕ) → n ≤ length (between s (s + n) code) → length part ≡ length (between s (s + n) code) → Spliced s n code (write_at s part code) part
spliced s n code part h l =
    let b : length (between s (s + n) code) ≡ min n (length code - s) = between_length s n code in
    elim (dec_le (s + n) (length code)) [
      | yes q ↦ inside_code s n code part q (omega arith)
      | no q ↦
          let z : length part ≡ 0 = omega arith in
          let e : write_at s part code ≡ code = paste_none code part s (length part) z in
          record {
            same = ap length e;
            before = ap (take s) e;
            after = ap (drop (s + n)) e;
            inside = ap (between s (s + n)) e ∙ both_nil (between s (s + n) code) part (omega arith) z;
          }
    ]

module _ (s n : ℕ) (old new part : List ℕ) (h : Spliced s n old new part) where
  below : (k : ℕ) → k < s → get_or new k 0 ≡ get_or old k 0
  below k lt = sym (get_or-take s new k 0 lt) ∙ ap (λ (l : List ℕ). get_or l k 0) h.before ∙ get_or-take s old k 0 lt

  above : (k : ℕ) → s + n ≤ k → get_or new k 0 ≡ get_or old k 0
  above k le =
      let e : s + n + (k - (s + n)) ≡ k = omega arith in
      let x : get_or new (s + n + (k - (s + n))) 0 ≡ get_or old (s + n + (k - (s + n))) 0 =
      sym (get_or-drop (s + n) new (k - (s + n)) 0) ∙ ap (λ (l : List ℕ). get_or l (k - (s + n)) 0) h.after ∙ get_or-drop (s + n) old (k - (s + n)) 0 in
      subst (λ (m : ℕ). get_or new m 0 ≡ get_or old m 0) e x

  mid : (xs : List ℕ) (j : ℕ) → j < n → get_or (between s (s + n) xs) j 0 ≡ get_or xs (s + j) 0
  mid xs j lt = get_or-take (s + n - s) (drop s xs) j 0 (omega arith) ∙ get_or-drop s xs j 0

  pub kept : (first past : ℕ) → take first part ≡ take first (between s (s + n) old) → drop past part ≡ drop past (between s (s + n) old) → (k : ℕ) → (k < s + first) ⊎ (s + past ≤ k) → get_or new k 0 ≡ get_or old k 0
  kept first past t d k o =
      elim (dec_lt k s) [
        | yes lt ↦ below k lt
        | no q ↦ elim (dec_le (s + n) k) [
          | yes le ↦ above k le
          | no r ↦
              let j : ℕ = k - s in
              let ej : s + j ≡ k = omega arith in
              let lt : j < n = omega arith in
              let win : List ℕ = between s (s + n) old in
              let p : get_or part j 0 ≡ get_or win j 0 =
              ⊎_elim
              (λ (a : k < s + first). let b : j < first = omega arith in sym (get_or-take first part j 0 b) ∙ ap (λ (l : List ℕ). get_or l j 0) t ∙ get_or-take first win j 0 b)
              (λ (a : s + past ≤ k).
              let e : past + (j - past) ≡ j = omega arith in
              subst (λ (m : ℕ). get_or part m 0 ≡ get_or win m 0) e
              (sym (get_or-drop past part (j - past) 0) ∙ ap (λ (l : List ℕ). get_or l (j - past) 0) d ∙ get_or-drop past win (j - past) 0))
              o in
              let x : get_or new (s + j) 0 ≡ get_or old (s + j) 0 =
              sym (mid new j lt) ∙ ap (λ (l : List ℕ). get_or l j 0) h.inside ∙ p ∙ mid old j lt in
              subst (λ (m : ℕ). get_or new m 0 ≡ get_or old m 0) ej x
        ]
      ]

-- codes that agree on a field hold the same in it
module _ (s n first past : ℕ) (xs ys : List ℕ) (same : length xs ≡ length ys) (inside : past ≤ n) (agree : (k : ℕ) → s + first ≤ k → k < s + past → get_or xs k 0 ≡ get_or ys k 0) where
  field_length : (zs : List ℕ) → length (take (past - first) (drop first (between s (s + n) zs))) ≡ min (past - first) (min n (length zs - s) - first)
  field_length zs =
      let b : length (between s (s + n) zs) ≡ min n (length zs - s) = between_length s n zs in
      let c : length (drop first (between s (s + n) zs)) ≡ length (between s (s + n) zs) - first = length-drop first (between s (s + n) zs) in
      length-take (past - first) (drop first (between s (s + n) zs)) ∙ ap (min (past - first)) (c ∙ ap (λ (m : ℕ). m - first) b)

  field_at : (zs : List ℕ) (m d : ℕ) → m < past - first → get_or (take (past - first) (drop first (between s (s + n) zs))) m d ≡ get_or zs (s + (first + m)) d
  field_at zs m d lt =
      get_or-take (past - first) (drop first (between s (s + n) zs)) m d lt
      ∙ get_or-drop first (between s (s + n) zs) m d
      ∙ get_or-take (s + n - s) (drop s zs) (first + m) d (omega arith)
      ∙ get_or-drop s zs (first + m) d

  pub same_field : take (past - first) (drop first (between s (s + n) xs)) ≡ take (past - first) (drop first (between s (s + n) ys))
  same_field =
      let lx = field_length xs in
      let ly = field_length ys in
      same_lists (take (past - first) (drop first (between s (s + n) xs))) (take (past - first) (drop first (between s (s + n) ys)))
      (lx ∙ ap (λ (m : ℕ). min (past - first) (min n (m - s) - first)) same ∙ sym ly)
      (λ m d lt.
      let q : m < past - first = omega arith in
      let k : ℕ = s + (first + m) in
      let kx : k < length xs = omega arith in
      let ky : k < length ys = omega arith in
      field_at xs m d q ∙ get_or_default xs k d 0 kx ∙ agree k (omega arith) (omega arith) ∙ get_or_default ys k 0 d ky ∙ sym (field_at ys m d q))
