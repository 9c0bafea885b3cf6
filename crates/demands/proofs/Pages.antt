-- The principle of the request over a call: the gap of a listed pair moves by a good PMT section on its PID under its number, and by lists,
-- alone. Of one section and of one packet it is in Index. Assumes nothing.
use mathlib.Core.Path.{◌≡◌, refl, sym, ap, ap₂, ◌∙◌}
use mathlib.Core.Logic.{◌≢◌}
use mathlib.Core.Bool.{Bool, true, false, cond, ◌&&◌, ◌||◌, true≢false}
use mathlib.Core.List.{List, [], ◌∷◌, ◌++◌}
use Prim.Native.Nat.{ℕ}
use lib.Dec.{eqb, ltb}
use borrow.Author.Tests.{ne_eqb}
use Rattle.lists.proofs.Tests.{or_false_left, or_false_right, cond_either}
use Rattle.lateness.specs.Gaps.{Watch, off, on, arrives, acted}
use Rattle.lateness.specs.Logs.{Call, clock, packet, time_of}
use Rattle.watches.specs.Tables.{pat_pid}
use Rattle.header.specs.Header.{right_sync, error_bit, pid_of, scrambled_bits, control_of}
use Rattle.sections.specs.declared.Outcome.{Outcome}
use Rattle.sections.specs.declared.Outcome.TheVariants.{Unfinished, Good, Fault, Silent}
use Rattle.sections.specs.Rooms.{room_count, pat_room}
use Rattle.sections.specs.Building.{Finished}
use Rattle.sections.specs.Outcomes.{is_pmt_room, outcome_of}
use Rattle.programmes.specs.Listing.{null_pid}
use Rattle.calls.specs.Cores.{listed}
use Rattle.calls.specs.Sync.{synced_of}
use Rattle.calls.specs.Steps.{bytes_of, counted}
use Rattle.calls.specs.Calls.{Result, held_of}
use Rattle.demands.specs.Runs.{Given, Asked, lending, after_call, IsAccepted}
use Rattle.demands.specs.Listening.{Listener, Heard, table, page, index, Listening, paired, room_on, heard_by, heard_one, heard_all, sync_of, listen1, listener_of}
use Rattle.demands.specs.Judgements.{programme, acts_of_all}
use Rattle.demands.specs.Pages.{found, gap_in, heard_at, is_page_of, is_index, hears, OffPid, ByIndex}
use Rattle.demands.proofs.Lists.{room_on_listed}
use Rattle.demands.proofs.Follows.{follows_1}
use Rattle.demands.proofs.Accepted.{accepted_of, call_accepted}
use Rattle.demands.proofs.Refusals.{accepted_or_refused, demand_1}
use Rattle.demands.proofs.OthersUnlisted.{not_pat}

-- WHAT IS NOT HEARD of any finished section is not heard of a packet
module _ (f : Heard → Bool) where
  abbrev Unheard : Listening → Type 0
  Unheard x = hears f x.heard ≡ false

  hears_append : (hs gs : List Heard) → hears f hs ≡ false → hears f gs ≡ false → hears f (hs ++ gs) ≡ false
  hears_append [] gs a b = b
  hears_append (h ∷ hs) gs a b =
      ap₂ (λ x y. x || y) (or_false_left (f h) (hears f hs) a) (hears_append hs gs (or_false_right (f h) (hears f hs) a) b)

  unheard_all : (r pid : ℕ) → ((s : Finished) (k : Listener) → Unheard (heard_one r pid s k)) → (fs : List Finished) (l : Listener) → Unheard (heard_all r pid fs l)
  unfolding heard_all
  unheard_all r pid each [] l = refl
  unheard_all r pid each (s ∷ fs) l =
      let a = heard_one r pid s l in
      hears_append a.heard (heard_all r pid fs a.listener).heard (each s l) (unheard_all r pid each fs a.listener)

  unheard_1 : (p : List ℕ) (l : Listener) → ((r : ℕ) (s : Finished) (k : Listener) → r ≡ room_on l.list (pid_of p) → Unheard (heard_one r (pid_of p) s k))
      → Unheard (listen1 p l)
  unfolding listen1
  unheard_1 p l each =
      let r = room_on l.list (pid_of p) in
      cond_either Unheard (synced_of (right_sync p) (sync_of l)).further _ _
      (cond_either Unheard (error_bit p) _ _ refl
      (cond_either Unheard (eqb (pid_of p) null_pid || eqb (control_of p) 0) _ _ refl
      (cond_either Unheard (scrambled_bits p) _ _ refl
      (cond_either Unheard (counted p l.counters).take _ _
      (cond_either Unheard (ltb r room_count) _ _ (unheard_all r (pid_of p) (λ s k. each r s k refl) _ _) refl) refl)))) refl

-- a page is heard on its PID
unheard_page : (n q r pid : ℕ) → pid ≢ q → (o : Outcome) (s : List ℕ) (l : Listener) → Unheard (is_page_of n q) (heard_by o r pid s l)
unheard_page n q r pid apart Unfinished s l = refl
unheard_page n q r pid apart (Good m) s l =
    cond_either (Unheard (is_page_of n q)) (eqb r pat_room) _ _ refl
    (cond_either (Unheard (is_page_of n q)) (is_pmt_room r) _ _
    (cond_either (λ (hs : List Heard). hears (is_page_of n q) hs ≡ false) (paired m pid l.list) _ _ other refl) refl)
  where
    none : (b : Bool) → ((b && false) || false) ≡ false
    none true = refl
    none false = refl

    other : ((eqb n m && eqb q pid) || false) ≡ false
    other = ap (λ x. (eqb n m && x) || false) (ne_eqb q pid (λ z. apart (sym z))) ∙ none (eqb n m)
unheard_page n q r pid apart (Fault f c i) s l = refl
unheard_page n q r pid apart Silent s l = refl

-- and a list in the PAT's room
unheard_index : (r pid : ℕ) → r ≢ pat_room → (o : Outcome) (s : List ℕ) (l : Listener) → Unheard is_index (heard_by o r pid s l)
unheard_index r pid apart Unfinished s l = refl
unheard_index r pid apart (Good m) s l =
    rw (ne_eqb r pat_room apart)
    (cond_either (Unheard is_index) (is_pmt_room r) _ _
    (cond_either (λ (hs : List Heard). hears is_index hs ≡ false) (paired m pid l.list) _ _ refl refl) refl)
unheard_index r pid apart (Fault f c i) s l = refl
unheard_index r pid apart Silent s l = refl

-- THE ACTS of a pair's watch, by what is heard
module _ (n q : ℕ) where
  acts_none : (hs : List Heard) → hears (is_page_of n q) hs ≡ false → hears is_index hs ≡ false → acts_of_all (programme n q) hs ≡ []
  acts_none [] a b = refl
  acts_none (table k ∷ hs) a b = acts_none hs a b
  acts_none (page m r ∷ hs) a b =
      let own = eqb n m && eqb q r in
      let rest = hears (is_page_of n q) hs in
      ap₂ (λ x y. cond x (arrives ∷ []) [] ++ y) (or_false_left own rest a) (acts_none hs (or_false_right own rest a) b)
  acts_none (index old new ∷ hs) a b = absurd (true≢false b)

  acted_again : (t : ℕ) (hs : List Heard) → hears is_index hs ≡ false → acted t (on t) (acts_of_all (programme n q) hs) ≡ on t
  acted_again t [] b = refl
  acted_again t (table k ∷ hs) b = acted_again t hs b
  acted_again t (page m r ∷ hs) b = go (eqb n m && eqb q r) (acted_again t hs b)
    where
      go : (x : Bool) → acted t (on t) (acts_of_all (programme n q) hs) ≡ on t → acted t (on t) (cond x (arrives ∷ []) [] ++ acts_of_all (programme n q) hs) ≡ on t
      go true ih = ih
      go false ih = ih
  acted_again t (index old new ∷ hs) b = absurd (true≢false b)

  acted_page : (t s : ℕ) (hs : List Heard) → hears (is_page_of n q) hs ≡ true → hears is_index hs ≡ false
      → acted t (on s) (acts_of_all (programme n q) hs) ≡ on t
  acted_page t s [] a b = absurd (true≢false (sym a))
  acted_page t s (table k ∷ hs) a b = acted_page t s hs a b
  acted_page t s (page m r ∷ hs) a b = go (eqb n m && eqb q r) a (λ e. acted_page t s hs e b)
    where
      go : (x : Bool) → (x || hears (is_page_of n q) hs) ≡ true
          → (hears (is_page_of n q) hs ≡ true → acted t (on s) (acts_of_all (programme n q) hs) ≡ on t)
          → acted t (on s) (cond x (arrives ∷ []) [] ++ acts_of_all (programme n q) hs) ≡ on t
      go true e ih = acted_again t hs b
      go false e ih = ih e
  acted_page t s (index old new ∷ hs) a b = absurd (true≢false b)

  -- A CALL
  module _ (g : Given) (a : Asked) where
    abbrev lent : Given
    lent = lending g a.table

    -- an accepted call moves it by what is heard, pages and lists
    pub gap_accepted : IsAccepted g a → gap_in n q (after_call g a) ≡ acted (time_of a.call) (gap_in n q g) (acts_of_all (programme n q) (heard_at lent a.call))
    gap_accepted e = ap (λ (x : Result). found n q (listed x.state.core)) (call_accepted a.capacity lent a.call e) ∙ go a.call
      where
        go : (c : Call (List ℕ)) → found n q (listed (accepted_of lent c).state.core) ≡ acted (time_of c) (gap_in n q g) (acts_of_all (programme n q) (heard_at lent c))
        go (clock t) = refl
        go (packet t p) = (follows_1 (programme n q) t p lent.counters (held_of g.state g.memory) tt).moves

    -- what is heard is of the packet's PID
    pages_off : OffPid q a.call → hears (is_page_of n q) (heard_at lent a.call) ≡ false
    pages_off = go a.call
      where
        go : (c : Call (List ℕ)) → OffPid q c → hears (is_page_of n q) (heard_at lent c) ≡ false
        go (clock t) off-pid = refl
        go (packet t p) off-pid =
            unheard_1 (is_page_of n q) p (listener_of (held_of g.state g.memory) lent.counters)
            (λ r f k from. unheard_page n q r (pid_of p) off-pid (outcome_of r (pid_of p) f) (bytes_of f) k)

    lists_off : OffPid pat_pid a.call → hears is_index (heard_at lent a.call) ≡ false
    lists_off = go a.call
      where
        go : (c : Call (List ℕ)) → OffPid pat_pid c → hears is_index (heard_at lent c) ≡ false
        go (clock t) off-pid = refl
        go (packet t p) off-pid =
            unheard_1 is_index p (listener_of (held_of g.state g.memory) lent.counters)
            (λ r f k from.
            unheard_index r (pid_of p) (λ z. not_pat g.state.core (pid_of p) off-pid (sym (room_on_listed g.state.core (pid_of p)) ∙ sym from ∙ z))
            (outcome_of r (pid_of p) f) (bytes_of f) k)

    -- a refused call leaves every gap as it was
    unless_accepted : (IsAccepted g a → gap_in n q (after_call g a) ≡ gap_in n q g) → gap_in n q (after_call g a) ≡ gap_in n q g
    unless_accepted f = accepted_or_refused g a f (λ refused. ap (gap_in n q) (demand_1 g a refused).given)

    pub index_call : ByIndex n q g a
    index_call =
        record {
          pages = pages_off;
          lists = lists_off;
          kept = λ no-page no-list.
              unless_accepted
              (λ e. gap_accepted e ∙ ap (acted (time_of a.call) (gap_in n q g)) (acts_none (heard_at lent a.call) no-page no-list));
          anew = λ e there own-page no-list. gap_accepted e ∙ go (gap_in n q g) there own-page no-list;
        }
      where
        go : (w : Watch) → (w ≡ off → ⊥) → hears (is_page_of n q) (heard_at lent a.call) ≡ true → hears is_index (heard_at lent a.call) ≡ false
            → acted (time_of a.call) w (acts_of_all (programme n q) (heard_at lent a.call)) ≡ on (time_of a.call)
        go off there own-page no-list = absurd (there refl)
        go (on s) there own-page no-list = acted_page (time_of a.call) s (heard_at lent a.call) own-page no-list
