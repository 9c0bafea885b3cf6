-- The refusals by what is refused: document 01, "The calls and their numbers", its table of refusals.
--
--   refusal_number r == the number of a refusal
--   number_in x == the number that an outcome gives: that of its refusal, 0 where the call is accepted
use Rattle.std.specs.Prelude.{ℕ, Result, Ok, Err}
use Rattle.checks.specs.declared.Refusal.{Refusal}
use Rattle.checks.specs.declared.Refusal.TheVariants.{PacketSize, TableSize, FewRecords, TimeTooLate, UnknownState, TimeBackwards}

abbrev pub refusal_number : Refusal → ℕ
refusal_number PacketSize = 1
refusal_number TableSize = 2
refusal_number FewRecords = 3
refusal_number TimeTooLate = 4
refusal_number UnknownState = 5
refusal_number TimeBackwards = 6

abbrev pub number_in : {A : Type 0} → Result A Refusal → ℕ
number_in (Ok x) = 0
number_in (Err r) = refusal_number r
