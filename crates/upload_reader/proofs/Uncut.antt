-- Why no line is cut from some bytes.
use Rattle.std.proofs.Common.{◌≡◌, ℕ, ◌<◌, ◌≤◌, List, length, if◌then◌else◌, nat_lt, option_map, Option, Some, None, Result, Ok, Err, inl, inr, refl, sym, ◌∙◌, arith}
use Rattle.std.proofs.lemmas.Bool.{cases_lt}
use Rattle.std.proofs.lemmas.Bool.Decides.{nat_tests}
use Rattle.byte_streams.specs.Cutting.{cut, cut_by, line_length}
use Rattle.byte_streams.specs.declared.fault.LineFault.{LineFault}
use Rattle.byte_streams.specs.declared.fault.LineFault.TheVariants.{LineTooLong}

-- ---- whether a size is past a limit

pub past : {A : Type 0} (limit size : ℕ) (x y : A) → limit < size → (if nat_lt limit size then x else y) ≡ x
past limit size x y long = grind (arith, nat_tests)

pub within : {A : Type 0} (limit size : ℕ) (x y : A) → size ≤ limit → (if nat_lt limit size then x else y) ≡ y
within limit size x y short = grind (arith, nat_tests)

-- ---- why nothing is cut

abbrev cut_fault : LineFault → Result (List ℕ) LineFault
cut_fault fault = Err fault

module _ (limit : ℕ) (bytes : List ℕ) where
  long_by : (at : Option ℕ) (ending : Option LineFault) (fault : LineFault) → cut_by at limit bytes ending ≡ Some (cut_fault fault) → limit < length bytes
      → (at ≡ None) × (fault ≡ LineTooLong)
  long_by (Some n) ending fault is long = cc
  long_by None ending fault is long =
      let first = past limit (length bytes) (Some (cut_fault LineTooLong)) (option_map cut_fault ending) long in
      let same : LineTooLong ≡ fault = cc (sym first ∙ is) in (refl, sym same)

  short_by : (at : Option ℕ) (ending : Option LineFault) (fault : LineFault) → cut_by at limit bytes ending ≡ Some (cut_fault fault) → length bytes ≤ limit
      → (at ≡ None) × (ending ≡ Some fault)
  short_by (Some n) ending fault is short = cc
  short_by None None fault is short = cc (sym (within limit (length bytes) (Some (cut_fault LineTooLong)) None short) ∙ is)
  short_by None (Some f) fault is short =
      let same : f ≡ fault = cc (sym (within limit (length bytes) (Some (cut_fault LineTooLong)) (Some (cut_fault f)) short) ∙ is) in rw same (refl, refl)

  none_by : (at : Option ℕ) → cut_by at limit bytes None ≡ None → (at ≡ None) × (length bytes ≤ limit)
  none_by (Some n) is = cc
  none_by None is = elim (cases_lt limit (length bytes)) [
    | inl long ↦ cc (sym (past limit (length bytes) (Some (cut_fault LineTooLong)) None long) ∙ is)
    | inr short ↦ (refl, short)
  ]

  pub too_many : (ending : Option LineFault) (fault : LineFault) → cut limit bytes ending ≡ Some (Err fault) → limit < length bytes
      → (line_length limit bytes ≡ None) × (fault ≡ LineTooLong)
  unfolding cut
  too_many ending fault is long = long_by (line_length limit bytes) ending fault is long

  pub too_few : (ending : Option LineFault) (fault : LineFault) → cut limit bytes ending ≡ Some (Err fault) → length bytes ≤ limit
      → (line_length limit bytes ≡ None) × (ending ≡ Some fault)
  unfolding cut
  too_few ending fault is short = short_by (line_length limit bytes) ending fault is short

  pub waits : cut limit bytes None ≡ None → (line_length limit bytes ≡ None) × (length bytes ≤ limit)
  unfolding cut
  waits is = none_by (line_length limit bytes) is

  -- a line that is cut before the input has ended has its end there
  end_by : (at : Option ℕ) (line : List ℕ) → cut_by at limit bytes None ≡ Some (Ok line) → at ≡ None → ⊥
  end_by (Some n) line is none = cc
  end_by None line is none = elim (cases_lt limit (length bytes)) [
    | inl long ↦ cc (sym (past limit (length bytes) (Some (cut_fault LineTooLong)) None long) ∙ is)
    | inr short ↦ cc (sym (within limit (length bytes) (Some (cut_fault LineTooLong)) None short) ∙ is)
  ]

  pub has_end : (line : List ℕ) → cut limit bytes None ≡ Some (Ok line) → line_length limit bytes ≡ None → ⊥
  unfolding cut
  has_end line is none = end_by (line_length limit bytes) line is none
