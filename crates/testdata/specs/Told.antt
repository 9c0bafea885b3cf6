-- What an answer tells: document 01, "What to write where" ("Whenever an answer is an enum, a definition gives this paper's number and values for each of
-- the enum's cases"), and "Test data sections" ("A refusal gives its number alone, a write its length").
--
--   paper_number e   == the number of a refusal
--   Told A       == a number, 0 where nothing is refused, and with it the values; none on a refusal
--   refusing n   == a refusal: its number alone
--   telling v    == no refusal: the values v
--   told_as f r   == an answer r: the refusal, or what f makes of its value
--   refused_as r  == its number, 0 where nothing is refused
--   told_by n v   == the refusal with the number n, or the values v where n is 0
--   after_values vs f l, after_told x f l == what lent memory holds after an answer x, with the values vs: what f makes of them, or what it held, l, on a refusal
use Rattle.std.specs.Prelude.{ℕ, cond, List, [], ◌∷◌, eqb, Result, Ok, Err}
use Rattle.testdata.specs.declared.Refusal.{Refusal}
use Rattle.testdata.specs.declared.Refusal.TheVariants.{BadLength, BadCrc, RunsPast, BadSize, TooShort}
use Rattle.testdata.specs.Numbers.{bad_length, bad_crc, runs_past, bad_size, too_short}

abbrev pub paper_number : Refusal → ℕ
paper_number BadLength = bad_length
paper_number BadCrc = bad_crc
paper_number RunsPast = runs_past
paper_number BadSize = bad_size
paper_number TooShort = too_short

pub record Told (A : Type 0) : Type 0 where
  pub number : ℕ
  pub values : List A

abbrev pub refusing : {A : Type 0} → ℕ → Told A
refusing n = record { number = n; values = [] }

abbrev pub telling : {A : Type 0} → A → Told A
telling v = record { number = 0; values = v ∷ [] }

abbrev pub told_as : {A B : Type 0} → (A → B) → Result A Refusal → Told B
told_as f (Ok v) = telling (f v)
told_as f (Err e) = refusing (paper_number e)

abbrev pub refused_as : {A : Type 0} → Result A Refusal → ℕ
refused_as r = (told_as (λ v. v) r).number

abbrev pub told_by : {A : Type 0} → ℕ → A → Told A
told_by n v = cond (eqb n 0) (telling v) (refusing n)

abbrev pub after_values : {A B : Type 0} → List A → (A → B) → B → B
after_values [] f l = l
after_values (v ∷ vs) f l = f v

abbrev pub after_told : {A B : Type 0} → Told A → (A → B) → B → B
after_told x f l = after_values x.values f l
