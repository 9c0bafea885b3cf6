-- What an answer tells fixes it: two answers that are told alike are the same. Assumes nothing.
use mathlib.Core.Path.{◌≡◌, refl, sym, ap, ◌∙◌}
use mathlib.Core.Bool.{Bool, true, false, cond}
use mathlib.Core.List.{List, [], ◌∷◌}
use Prim.Native.Nat.{ℕ, zero, suc}
use lib.Dec.{eqb}
use lib.ListN.{get_or}
use borrow.Author.Tests.{eqb-true, eqb-false}
use Rattle.std.specs.Prelude.{Result, Ok, Err, Option, Some, None}
use Rattle.testdata.specs.declared.Refusal.{Refusal}
use Rattle.testdata.specs.declared.Refusal.TheVariants.{BadLength, BadCrc, RunsPast, BadSize, TooShort}
use Rattle.testdata.specs.declared.Fixed.{Fixed}
use Rattle.testdata.specs.declared.Fixed.TheVariants.{ElementaryId, Gps, ReducedPcr, Program}
use Rattle.testdata.specs.declared.Descriptor.TheVariants.{Known, Other}
use Rattle.testdata.specs.declared.Descriptor.{Descriptor}
use Rattle.testdata.specs.declared.Cursor.{Cursor}
use Rattle.testdata.specs.declared.Step.{Step}
use Rattle.testdata.specs.declared.Fields.{Fields}
use Rattle.testdata.specs.declared.Fields.TheVariants.{Plain, Generic}
use Rattle.testdata.specs.declared.Section.{Section}
use Rattle.testdata.specs.Told.{paper_number, Told, refusing, telling, told_as, told_by, after_told}
use Rattle.testdata.specs.Numbers.{bad_length, bad_crc, runs_past, bad_size, elementary_tag, gps_tag, reduced_pcr_tag}
use Rattle.testdata.specs.Descriptors.{tag_of, fixed_values, Standing, of_fixed_size, of_other_tag, at_end, descriptor_standing, step_standing, step_says}
use Rattle.testdata.specs.Section.{indicator_of, field_values}
use Rattle.testdata.specs.Reader.{SectionValues, section_values, reading_says}
use Rattle.testdata.specs.Writer.{written_says}

-- A REFUSAL, by its number
abbrev refusal_from : ℕ → Refusal
refusal_from n = cond (eqb n bad_length) BadLength (cond (eqb n bad_crc) BadCrc (cond (eqb n runs_past) RunsPast (cond (eqb n bad_size) BadSize TooShort)))

refusal_back : (e : Refusal) → refusal_from (paper_number e) ≡ e
refusal_back BadLength = refl
refusal_back BadCrc = refl
refusal_back RunsPast = refl
refusal_back BadSize = refl
refusal_back TooShort = refl

-- each answer again, from what it tells, where its value comes back from what is made of it
module _ {A B : Type 0} (f : A → B) (again : B → A) (back : (v : A) → again (f v) ≡ v) where
  answer_from : ℕ → List B → Result A Refusal
  answer_from n [] = Err (refusal_from n)
  answer_from n (v ∷ vs) = Ok (again v)

  answer_back : (r : Result A Refusal) → answer_from (told_as f r).number (told_as f r).values ≡ r
  unfolding answer_from
  answer_back (Ok v) = ap Ok (back v)
  answer_back (Err e) = ap Err (refusal_back e)

  told_alike : (a b : Result A Refusal) → told_as f a ≡ told_as f b → a ≡ b
  told_alike a b e = sym (answer_back a) ∙ ap (λ (t : Told B). answer_from t.number t.values) e ∙ answer_back b

-- an answer that is told by a number and has a value: the number is 0, and the value is the one told
module _ {A B : Type 0} (f : A → B) (n : ℕ) (w : B) where
  pub told_ok : (v : A) → told_as f (Ok v) ≡ told_by n w → (n ≡ 0) × (f v ≡ w)
  told_ok v h = go (eqb n 0) refl h
    where
      go : (t : Bool) → eqb n 0 ≡ t → telling (f v) ≡ cond t (telling w) (refusing n) → (n ≡ 0) × (f v ≡ w)
      go true t e = (eqb-true n 0 t, ap (λ (x : Told B). after_told x (λ y. y) w) e)
      go false t e = absurd (eqb-false n 0 t (sym (ap (λ (x : Told B). x.number) e)))

-- A WRITE
pub written_alike : (a b : Result ℕ Refusal) → written_says a ≡ written_says b → a ≡ b
written_alike a b e = told_alike (λ n. n) (λ n. n) (λ n. refl) a b e

-- A READING
abbrev fields_from : ℕ → List ℕ → Fields
fields_from zero l = Plain (record { table_id = get_or l 0 0; priority = get_or l 1 0; reserved = get_or l 2 0 })
fields_from (suc i) l =
    Generic (record { table_id = get_or l 0 0; priority = get_or l 1 0; reserved = get_or l 2 0 })
    (record {
      user_defined = get_or l 3 0;
      extension = get_or l 4 0;
      reserved = get_or l 5 0;
      version = get_or l 6 0;
      current_next = get_or l 7 0;
      number = get_or l 8 0;
      last = get_or l 9 0;
      reserved_loop = get_or l 10 0;
    })

fields_back : (f : Fields) → fields_from (indicator_of f) (field_values f) ≡ f
fields_back (Plain h) = refl
fields_back (Generic h x) = refl

abbrev section_from : SectionValues → Section
section_from v = record { fields = fields_from v.indicator v.fields; descriptors = v.descriptors; «data» = v.test }

section_back : (s : Section) → section_from (section_values s) ≡ s
section_back s = ap (λ (f : Fields). record { fields = f; descriptors = s.descriptors; «data» = s.data }) (fields_back s.fields)

pub section_alike : (a b : Section) → section_values a ≡ section_values b → a ≡ b
section_alike a b e = sym (section_back a) ∙ ap section_from e ∙ section_back b

pub reading_alike : (a b : Result Section Refusal) → reading_says a ≡ reading_says b → a ≡ b
reading_alike a b e = told_alike section_values section_from section_back a b e

-- A STEP
abbrev fixed_from : ℕ → List ℕ → Fixed
fixed_from tag l =
    cond (eqb tag elementary_tag) (ElementaryId (get_or l 0 0) (get_or l 1 0))
    (cond (eqb tag gps_tag) (Gps (get_or l 0 0) (get_or l 1 0) (get_or l 2 0) (get_or l 3 0) (get_or l 4 0))
    (cond (eqb tag reduced_pcr_tag) (ReducedPcr (get_or l 0 0))
    (Program (get_or l 0 0) (get_or l 1 0) (get_or l 2 0))))

fixed_back : (d : Fixed) → fixed_from (tag_of d) (fixed_values d) ≡ d
fixed_back (ElementaryId kind pid) = refl
fixed_back (Gps south latitude west longitude elevation) = refl
fixed_back (ReducedPcr base) = refl
fixed_back (Program number reserved pid) = refl

abbrev step_from : Standing → Option Step
step_from (of_fixed_size tag values next) = Some (record { descriptor = Known (fixed_from tag values); next = next })
step_from (of_other_tag tag place next) = Some (record { descriptor = Other tag place; next = next })
step_from at_end = None

step_back : (x : Option Step) → step_from (step_standing x) ≡ x
step_back (Some x) = some_back x.descriptor x.next
  where
    some_back : (d : Descriptor) (next : Cursor) → step_from (descriptor_standing d next) ≡ Some (record { descriptor = d; next = next })
    some_back (Known d) next = ap (λ (f : Fixed). Some (record { descriptor = Known f; next = next })) (fixed_back d)
    some_back (Other tag place) next = refl
step_back None = refl

pub step_alike : (a b : Result (Option Step) Refusal) → step_says a ≡ step_says b → a ≡ b
step_alike a b e = told_alike step_standing step_from step_back a b e
