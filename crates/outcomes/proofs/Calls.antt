-- What every outcome that meets the promise of a call says. Assumes nothing.
use mathlib.Core.Path.{◌≡◌, refl, sym, ap, ap₂, ◌∙◌, subst}
use mathlib.Core.List.{List}
use Prim.Native.Nat.{ℕ}
use lib.ListN.{length, take, drop}
use lib.Seq.{take-append_seam}
use lib.Dec.{eqb}
use Rattle.lists.proofs.Tests.{cond_either}
use Rattle.lateness.specs.Logs.{Call, clock, packet}
use Rattle.events.specs.declared.Event.{Event}
use Rattle.calls.specs.declared.Answer.{Answer}
use Rattle.calls.specs.Calls.{Result, answer_of, handed_over, clock_refusal, clock_call}
use Rattle.demands.specs.Runs.{Given, call_given, asking, after_call}
use Rattle.demands.specs.Refused.{Refused}
use Rattle.demands.proofs.Refusals.{demand_1}
use Rattle.outcomes.specs.Engines.{Outcome, Meets, right_outcome, Refuses, events_in, next}

-- THE RIGHT OUTCOME meets the promise
pub right_meets : (g : Given) (c : Call (List ℕ)) (old : List Event) → Meets g c old (right_outcome g c old)
right_meets g (clock t) old = (refl, refl)
right_meets g (packet t p) old = (refl, refl, refl, refl)

clock_memory : (g : Given) (t capacity : ℕ) → (clock_call g.state t g.memory capacity).memory ≡ g.memory
unfolding clock_call
clock_memory g t capacity = cond_either (λ (x : Result). x.memory ≡ g.memory) (eqb (clock_refusal g.state t g.memory capacity) 0) _ _ refl refl

module _ (g : Given) (old : List Event) (o : Outcome) where
  pub answered : (c : Call (List ℕ)) → Meets g c old o → o.answer ≡ answer_of (call_given (length old) g c)
  answered (clock t) m = m.0
  answered (packet t p) m = m.0

  pub written : (c : Call (List ℕ)) → Meets g c old o → o.events ≡ handed_over (call_given (length old) g c).events old
  written (clock t) m = m.1
  written (packet t p) m = m.3

  pub numbered : (c : Call (List ℕ)) → Meets g c old o → o.answer.refusal ≡ (call_given (length old) g c).refusal
  numbered c m = ap (λ (a : Answer). a.refusal) (answered c m)

  pub refused : (c : Call (List ℕ)) → Meets g c old o → Refuses o → Refused g (asking (length old) c)
  refused c m not = λ e. not (numbered c m ∙ e)

  -- N is the length of the defined list, and the events are that list
  pub counted : (c : Call (List ℕ)) → Meets g c old o → o.answer.n ≡ length (call_given (length old) g c).events
  counted c m = ap (λ (a : Answer). a.n) (answered c m)

  pub listed : (c : Call (List ℕ)) → Meets g c old o → events_in o ≡ (call_given (length old) g c).events
  listed c m =
      let es = (call_given (length old) g c).events in
      ap₂ take (counted c m) (written c m) ∙ take-append_seam es (drop (length es) old)

  -- THE NEXT CALL is given what the definitions say
  pub next_after : (c : Call (List ℕ)) → Meets g c old o → next g c o ≡ after_call g (asking (length old) c)
  next_after (clock t) m = λ i.
      record { state = (answered (clock t) m i).state; counters = g.counters; memory = sym (clock_memory g t (length old)) i }
  next_after (packet t p) m = λ i. record { state = (answered (packet t p) m i).state; counters = m.1 i; memory = m.2 i }

  -- A REFUSAL: no event is written, the answer is the number alone with the given state, and lent memory is as it was
  pub refusal_events : (c : Call (List ℕ)) → Meets g c old o → Refuses o → o.events ≡ old
  refusal_events c m not = written c m ∙ (demand_1 g (asking (length old) c) (refused c m not)).list old

  pub refusal_state : (c : Call (List ℕ)) → Meets g c old o → Refuses o → o.answer.state ≡ g.state
  refusal_state c m not =
      ap (λ (a : Answer). a.state) (answered c m ∙ (demand_1 g (asking (length old) c) (refused c m not)).answer)

  pub refusal_n : (c : Call (List ℕ)) → Meets g c old o → Refuses o → o.answer.n ≡ 0
  refusal_n c m not = ap (λ (a : Answer). a.n) (answered c m ∙ (demand_1 g (asking (length old) c) (refused c m not)).answer)

  module _ (t : ℕ) (p : List ℕ) where
    pub refusal_counters : Meets g (packet t p) old o → Refuses o → o.counters ≡ g.counters
    refusal_counters m not =
        m.1 ∙ ap (λ (x : Given). x.counters) (demand_1 g (asking (length old) (packet t p)) (refused (packet t p) m not)).given

    pub refusal_memory : Meets g (packet t p) old o → Refuses o → o.memory ≡ g.memory
    refusal_memory m not =
        m.2 ∙ ap (λ (x : Given). x.memory) (demand_1 g (asking (length old) (packet t p)) (refused (packet t p) m not)).given

-- A LOG of two calls, and of three: the events of the last are the defined ones
module _ (g : Given) (old : List Event) (c d : Call (List ℕ)) (o o' : Outcome) (m : Meets g c old o) (m' : Meets (next g c o) d old o') where
  abbrev g' : Given
  g' = after_call g (asking (length old) c)

  second_meets : Meets g' d old o'
  second_meets = subst (λ x. Meets x d old o') (next_after g old o c m) m'

  pub listed_second : events_in o' ≡ (call_given (length old) g' d).events
  listed_second = listed g' old o' d second_meets

  pub listed_third : (e : Call (List ℕ)) (o'' : Outcome) → Meets (next (next g c o) d o') e old o'' → events_in o'' ≡ (call_given (length old) (after_call g' (asking (length old) d)) e).events
  listed_third e o'' m'' =
      let n = subst (λ x. Meets (next x d o') e old o'') (next_after g old o c m) m'' in
      listed (after_call g' (asking (length old) d)) old o'' e (subst (λ x. Meets x e old o'') (next_after g' old o' d second_meets) n)
