-- Demand 1: refused calls change nothing, and a log's events are those of its accepted calls. Assumes nothing.
use mathlib.Core.Path.{◌≡◌, refl, sym, ap, ap₂, ◌∙◌, subst}
use mathlib.Core.Bool.{Bool, true, false}
use mathlib.Core.List.{List, [], ◌∷◌, ◌++◌, flatten}
use Prim.Native.Nat.{ℕ}
use lib.Dec.{eqb}
use borrow.Author.Tests.{eqb-true, eqb-false, eq-eqb, ne_eqb}
use Rattle.lateness.specs.Gaps.{keep}
use Rattle.lateness.specs.Logs.{Call, clock, packet}
use Rattle.calls.specs.Cores.{opened_state}
use Rattle.calls.specs.Calls.{Result, open_refusal, open_state, open_table, answer_of, refused_with}
use Rattle.calls.proofs.Accepted.{packet_call_refused, clock_call_refused, packet_number, clock_number}
use Rattle.demands.specs.Runs.{Given, call_given, Lent, own, other, Asked, lent_table, lending, call_of, table_left, own_after, after_call, IsAccepted, along, Each, results, AllAccepted, taken}
use Rattle.demands.specs.Refused.{Refused, HandedBack, after_calls, event_log}

-- a call is accepted or refused
pub accepted_or_refused : {P : Type 0} (g : Given) (a : Asked) → (IsAccepted g a → P) → (Refused g a → P) → P
accepted_or_refused {P} g a accepted refused = go (eqb (call_of g a).refusal 0) refl
  where
    go : (b : Bool) → eqb (call_of g a).refusal 0 ≡ b → P
    go true e = accepted (eqb-true (call_of g a).refusal 0 e)
    go false e = refused (eqb-false (call_of g a).refusal 0 e)

-- A REFUSED CALL hands back what it was given
abbrev table_given : Given → Call (List ℕ) → List ℕ
table_given g (clock t) = []
table_given g (packet t p) = g.counters

call_refused : (capacity : ℕ) (g : Given) (c : Call (List ℕ)) → ((call_given capacity g c).refusal ≡ 0 → ⊥)
    → call_given capacity g c ≡ refused_with (call_given capacity g c).refusal g.state (table_given g c) g.memory
call_refused capacity g (clock t) refused =
    let number = clock_number g.state t g.memory capacity in
    clock_call_refused g.state t g.memory capacity (λ z. refused (number ∙ z))
    ∙ ap (λ n. refused_with n g.state [] g.memory) (sym number)
call_refused capacity g (packet t p) refused =
    let number = packet_number g.state t p g.counters g.memory capacity in
    packet_call_refused g.state t p g.counters g.memory capacity (λ z. refused (number ∙ z))
    ∙ ap (λ n. refused_with n g.state g.counters g.memory) (sym number)

-- the table that was lent, and the log's own
left_given : (c : Call (List ℕ)) (g : Given) (n : ℕ) → table_left c g.counters (refused_with n g.state (table_given g c) g.memory) ≡ g.counters
left_given (clock t) g n = refl
left_given (packet t p) g n = refl

own_given : (l : Lent) (counters : List ℕ) → own_after l (lent_table l counters) counters ≡ counters
own_given own counters = refl
own_given (other foreign) counters = refl

pub demand_1 : (g : Given) (a : Asked) → Refused g a → HandedBack g a
demand_1 g a refused =
    let k = lending g a.table in
    let e = call_refused a.capacity k a.call refused in
    let lent = ap (table_left a.call k.counters) e ∙ left_given a.call k (call_of g a).refusal in
    let back = ap (λ z. own_after a.table z g.counters) lent ∙ own_given a.table g.counters in
    record {
      given = λ i. record { state = (e i).state; counters = back i; memory = (e i).memory };
      table = lent;
      silent = ap (λ (x : Result). x.events) e;
      answer = ap answer_of e;
      list = λ old. rw e;
    }

-- and a refused opening gives the state of an opening at time 0, and the table as it was
pub demand_1_opening : (t : ℕ) (counters : List ℕ) → (open_refusal t counters ≡ 0 → ⊥) → (open_state t counters ≡ opened_state 0) × (open_table t counters ≡ counters)
demand_1_opening t counters refused = (rw (ne_eqb (open_refusal t counters) 0 refused), rw (ne_eqb (open_refusal t counters) 0 refused))

-- BETWEEN TWO CALLS of a log, it leaves all later results as they are
pub results_append : (log later : List Asked) (g : Given) → results g (log ++ later) ≡ results g log ++ results (after_calls g log) later
results_append [] later g = refl
results_append (a ∷ log) later g = ap (λ z. call_of g a ∷ z) (results_append log later (after_call g a))

pub demand_1_later : (g : Given) (log : List Asked) (a : Asked) (later : List Asked) → Refused (after_calls g log) a
    → results g (log ++ (a ∷ later)) ≡ results g log ++ (call_of (after_calls g log) a ∷ results (after_calls g log) later)
demand_1_later g log a later refused =
    results_append log (a ∷ later) g
    ∙ ap (λ x. results g log ++ (call_of (after_calls g log) a ∷ results x later)) (demand_1 (after_calls g log) a refused).given

-- WHAT IS SAID OF EACH CALL
pub each_map : {P Q : Given → Asked → Type 0} → ((g : Given) (a : Asked) → P g a → Q g a) → (log : List Asked) (g : Given) → Each P g log → Each Q g log
each_map f [] g h = tt
each_map f (a ∷ log) g h = (f g a h.0, each_map f log (after_call g a) h.1)

pub each_both : (P Q : Given → Asked → Type 0) (log : List Asked) (g : Given) → Each P g log → Each Q g log → Each (λ k a. P k a × Q k a) g log
each_both P Q [] g h i = tt
each_both P Q (a ∷ log) g h i = ((h.0, i.0), each_both P Q log (after_call g a) h.1 i.1)

each_any : {P : Given → Asked → Type 0} → ((g : Given) (a : Asked) → P g a) → (log : List Asked) (g : Given) → Each P g log
each_any f [] g = tt
each_any f (a ∷ log) g = (f g a, each_any f log (after_call g a))

-- said of the accepted calls of a log, it holds in the log of these alone
pub each_taken : (P : Given → Asked → Type 0) (log : List Asked) (g : Given) → Each (λ k a. IsAccepted k a → P k a) g log → Each P g (taken g log)
each_taken P [] g h = tt
each_taken P (a ∷ log) g h = go (eqb (call_of g a).refusal 0) refl (each_taken P log (after_call g a) h.1)
  where
    go : (b : Bool) → eqb (call_of g a).refusal 0 ≡ b → Each P (after_call g a) (taken (after_call g a) log) → Each P g (keep b a (taken (after_call g a) log))
    go true e ih = (h.0 (eqb-true (call_of g a).refusal 0 e), ih)
    go false e ih = subst (λ x. Each P x (taken (after_call g a) log)) (demand_1 g a (eqb-false (call_of g a).refusal 0 e)).given ih

pub all_taken : (log : List Asked) (g : Given) → AllAccepted g (taken g log)
all_taken log g = each_taken IsAccepted log g (each_any (λ k a e. e) log g)

-- and all calls of a log of accepted ones are taken
pub taken_all : (log : List Asked) (g : Given) → AllAccepted g log → taken g log ≡ log
taken_all [] g h = refl
taken_all (a ∷ log) g h =
    ap₂ (λ b z. keep b a z) (eq-eqb (call_of g a).refusal 0 h.0) (taken_all log (after_call g a) h.1)

-- WHAT THE CALLS HAND OVER is what the accepted ones do, where a refused one hands over nothing
pub along_taken : {A : Type 0} (f : Given → Asked → List A) → ((g : Given) (a : Asked) → Refused g a → f g a ≡ []) → (log : List Asked) (g : Given)
    → flatten (along f g log) ≡ flatten (along f g (taken g log))
unfolding flatten
along_taken f silent [] g = refl
along_taken f silent (a ∷ log) g = go (eqb (call_of g a).refusal 0) refl (along_taken f silent log (after_call g a))
  where
    go : (b : Bool) → eqb (call_of g a).refusal 0 ≡ b
        → flatten (along f (after_call g a) log) ≡ flatten (along f (after_call g a) (taken (after_call g a) log))
        → f g a ++ flatten (along f (after_call g a) log) ≡ flatten (along f g (keep b a (taken (after_call g a) log)))
    go true e ih = ap (λ z. f g a ++ z) ih
    go false e ih =
        let refused = eqb-false (call_of g a).refusal 0 e in
        ap₂ (λ x y. x ++ y) (silent g a refused) ih ∙ ap (λ x. flatten (along f x (taken (after_call g a) log))) (demand_1 g a refused).given

-- THE EVENTS OF A LOG are those of its accepted calls
pub demand_1_log : (g : Given) (log : List Asked) → (event_log g log ≡ event_log g (taken g log)) × AllAccepted g (taken g log)
demand_1_log g log = (along_taken (λ k a. (call_of k a).events) (λ k a refused. (demand_1 k a refused).silent) log g, all_taken log g)
