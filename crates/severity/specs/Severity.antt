-- Severity by A/78: document 01, "Severity by A/78", and refusal 7 of "The calls and their numbers".
--
--   toa, poa, cm, qos, tnc == the classes, each by its value in a set
--   ms n             == n milliseconds as ticks of 27 MHz
--   table            == the rows, down the paper's table: TNC above, QOS with TNC above, absence above, the set at absence; the PAT's first two
--                       limits are Table 5.1 of A/78
--   set_for r gap     == the classes of a gap, as a set
--   classes          == the classes, worst first
--   is_in c set       == the class c is in the set
--   count_among set cs, class_count set == the number of classes in the set, of those in cs and of all
--   worst_among set cs, worst_of set == the worst class in the set: the highest, or 0 where there is none; of those in cs and of all
--   unlisted_kind     == the refusal
--   answer_for set    == the answer where the classes are this set
--   refused          == the answer to a kind that is not listed
--   row_for kind      == the row of a kind
--   severity_of kind gap == the whole answer
use Rattle.std.specs.Prelude.{ℕ, ◌+◌, ◌*◌, ◌/◌, ◌%◌, Bool, cond, List, [], ◌∷◌, ltb, eqb, length, get_or}
use Rattle.severity.specs.declared.Row.{Row}
use Rattle.severity.specs.declared.Verdict.{Verdict}

abbrev pub toa : ℕ
toa = 16

abbrev pub poa : ℕ
poa = 8

abbrev pub cm : ℕ
cm = 4

abbrev pub qos : ℕ
qos = 2

abbrev pub tnc : ℕ
tnc = 1

abbrev pub ms : ℕ → ℕ
ms n = n * 27000

-- kinds 0 to 5: PAT, PMT, EIT-0, EIT-1, EIT-2 and EIT-3, STT
abbrev pub table : List Row
table =
    record { tnc = ms 100; qos = ms 200; absence = ms 500; set = toa + poa + cm + qos + tnc }
    ∷ record { tnc = ms 400; qos = ms 800; absence = ms 2000; set = poa + cm + qos + tnc }
    ∷ record { tnc = ms 500; qos = ms 1000; absence = ms 2500; set = poa + cm + qos + tnc }
    ∷ record { tnc = ms 3000; qos = ms 6000; absence = ms 15000; set = cm + qos + tnc }
    ∷ record { tnc = ms 60000; qos = ms 120000; absence = ms 300000; set = cm + qos + tnc }
    ∷ record { tnc = ms 1000; qos = ms 2000; absence = ms 5000; set = cm + qos + tnc }
    ∷ []

abbrev pub set_for : Row → ℕ → ℕ
set_for r gap =
    cond (ltb r.absence gap) r.set
    (cond (ltb r.qos gap) (qos + tnc)
    (cond (ltb r.tnc gap) tnc 0))

abbrev pub classes : List ℕ
classes = toa ∷ poa ∷ cm ∷ qos ∷ tnc ∷ []

abbrev pub is_in : ℕ → ℕ → Bool
is_in c set = eqb (set / c % 2) 1

abbrev pub count_among : ℕ → List ℕ → ℕ
count_among set [] = 0
count_among set (c ∷ cs) = cond (is_in c set) 1 0 + count_among set cs

abbrev pub class_count : ℕ → ℕ
class_count set = count_among set classes

abbrev pub worst_among : ℕ → List ℕ → ℕ
worst_among set [] = 0
worst_among set (c ∷ cs) = cond (is_in c set) c (worst_among set cs)

abbrev pub worst_of : ℕ → ℕ
worst_of set = worst_among set classes

abbrev pub unlisted_kind : ℕ
unlisted_kind = 7

abbrev pub answer_for : ℕ → Verdict
answer_for set = record { refusal = 0; set = set; number = class_count set; worst = worst_of set }

abbrev pub refused : Verdict
refused = record { refusal = unlisted_kind; set = 0; number = 0; worst = 0 }

abbrev pub row_for : ℕ → Row
row_for kind = get_or table kind (record { tnc = 0; qos = 0; absence = 0; set = 0 })

unfoldable pub severity_of : ℕ → ℕ → Verdict
severity_of kind gap = cond (ltb kind (length table)) (answer_for (set_for (row_for kind) gap)) refused
