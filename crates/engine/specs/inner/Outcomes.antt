-- What a call comes to inside, an outcome or a refusal, and what is handed back of it: document 01, "The calls and their numbers".
--
--   replied x    == the reply: 0 and the number of events, or the refusal's number
--   answered s x == the answer of a call that left the state s: 0 and the number of events, or the refusal's number, and s
--   ReadIn x t p counters capacity == what is read of a packet that refusals 1 to 4 pass, its header and the byte of its PID, or the refusal
use Rattle.std.specs.Prelude.{◌≡◌, ℕ, ◌<◌, List, Result, Ok, Err}
use Rattle.header.specs.declared.Header.{Header}
use Rattle.header.specs.inner.Reads.{ReadOff}
use Rattle.calls.specs.declared.State.{State}
use Rattle.calls.specs.declared.Answer.{Answer}
use Rattle.arrays.specs.declared.Reply.{Reply}
use Rattle.checks.specs.declared.Refusal.{Refusal}
use Rattle.checks.specs.Refusals.{refusal_number}
use Rattle.checks.specs.inner.Ladders.{sizes_refusal, Right}

abbrev pub replied : Result ℕ Refusal → Reply
replied (Ok n) = record { refusal = 0; n = n }
replied (Err r) = record { refusal = refusal_number r; n = 0 }

abbrev pub answered : State → Result ℕ Refusal → Answer
answered s (Ok n) = record { refusal = 0; n = n; state = s }
answered s (Err r) = record { refusal = refusal_number r; n = 0; state = s }

abbrev pub ReadIn : Result (Header × ℕ) Refusal → ℕ → List ℕ → List ℕ → ℕ → Type 0
ReadIn (Ok x) t p counters capacity = Right t p counters capacity × ReadOff p counters x.0 x.1 × (x.0.pid < 8192)
ReadIn (Err r) t p counters capacity = refusal_number r ≡ sizes_refusal t p counters capacity
