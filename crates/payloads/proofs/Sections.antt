-- Sections of a payload, one after the other: where the code has come, and what is still to be fed. Assumes nothing.
use mathlib.Core.Path.{◌≡◌, refl, sym, ap, ap₂, ◌∙◌}
use mathlib.Core.Bool.{Bool, true, false, cond, true≢false}
use mathlib.Core.List.{List, [], ◌++◌, append_assoc, append-nil}
use Rattle.lists.proofs.Turns.{rest_all}
use Prim.Native.Nat.{ℕ, ◌+◌, ◌-◌, ◌≤◌, ◌<◌}
use native.Mathlib.Nat.{add-zero}
use lib.ListN.{length, get_or, take, drop}
use lib.Seq.{drop-drop}
use borrow.Author.Tests.{ne_eqb, eq-eqb}
use Rattle.lists.proofs.Laying.{laid_none, laid_turn}
use Rattle.lists.proofs.Turns.{drop_turn, drop_none}
use Rattle.events.specs.declared.Event.{Event}
use Rattle.events.specs.Events.{numbers_of, events_laid}
use Rattle.events.specs.Capacity.{record_width}
use Rattle.sections.specs.declared.Stage.{Stage}
use Rattle.sections.specs.declared.Stage.TheVariants.{More, Bad, Whole}
use Rattle.sections.specs.declared.Laid.{Laid}
use Rattle.sections.specs.Rooms.{memory_size, room_count, room_base, greatest_length, half_built}
use Rattle.sections.specs.Section.{stage_of, is_more}
use Rattle.sections.specs.Building.{Stretch, following, bad_length, whole, Job, laid_byte, ended, settled, fed, begun_job}
use Rattle.sections.specs.inner.Steps.{laid_of, laid_in}
use Rattle.sections.proofs.Counts.{fed_ignored}
use Rattle.sections.proofs.Chunks.{Begins}
use Rattle.sections.proofs.Jobs.{SoundJob, empty_more}
use Rattle.sections.proofs.Takes.{laid_size, laid_fits, laid_three, section_step, laid_out}
use Rattle.calls.specs.declared.Core.{Core}
use Rattle.calls.specs.Steps.{Absorbed, absorbed_all}
use Rattle.payloads.specs.inner.Taking.{held}
use Rattle.payloads.specs.inner.Parts.{came_to, end_acts, is_bad, Left, finished, Shown, Fit}
use Rattle.payloads.proofs.Actions.{led, came_behind}
use Rattle.payloads.proofs.Kept.{fit_acted}

-- an empty room; the rest of the payload is ignored or not
abbrev pub empty : Bool → List ℕ → Job
empty ignored m = record { memory = m; half = 0; finished = []; ignored = ignored }

-- A STEP, whose section acts
module _ (t r pid : ℕ) (m : List ℕ) (n : ℕ) (s : List ℕ) (l : Laid) (m' : List ℕ) (below : r < room_count) (size : length m ≡ memory_size)
    (more : is_more (stage_of (greatest_length r) (half_built m r n)) ≡ true) (el : l ≡ laid_of (greatest_length r) (half_built m r n) n s)
    (em : m' ≡ laid_in r m n (take l.taken s)) (w : Stretch) (begins : Begins w r (begun_job m n) s) where
  abbrev bytes : List ℕ
  bytes = half_built m' r l.length

  abbrev after : Core → Absorbed
  after c = end_acts t r pid l.stage bytes (held c m')

  pub step_acts : (c : Core) (m₀ : List ℕ) → 5 ≤ length c.half → is_more l.stage ≡ false
      → came_to t r pid (fed w r (begun_job m n) s) (held c m₀)
      ≡ led (after c).events (came_to t r pid (fed w r (empty (is_bad l.stage) (after c).held.memory) (drop l.taken s)) (after c).held)
  step_acts c m₀ halves e =
      ap (λ j. came_to t r pid j (held c m₀)) (section_step r m n s l m' below size more el em w begins) ∙ go l.stage e
    where
      sound : (ignored : Bool) → SoundJob r (empty ignored m')
      sound ignored = record { size = laid_size r m n s l m' below size more el em; more = empty_more m' r }

      go : (g : Stage) → is_more g ≡ false
          → came_to t r pid (fed w r (ended g bytes (begun_job m' l.length)) (drop l.taken s)) (held c m₀)
          ≡ led (end_acts t r pid g bytes (held c m')).events
          (came_to t r pid (fed w r (empty (is_bad g) (end_acts t r pid g bytes (held c m')).held.memory) (drop l.taken s)) (end_acts t r pid g bytes (held c m')).held)
      go More e = absurd (true≢false e)
      go Bad e = came_behind t r pid w (empty true m') (drop l.taken s) c m₀ (sound true) halves bad_length
      go Whole e = came_behind t r pid w (empty false m') (drop l.taken s) c m₀ (sound false) halves (whole bytes)

  -- or goes on
  pub step_waits : is_more l.stage ≡ true → fed w r (begun_job m n) s ≡ begun_job m' l.length
  unfolding fed
  step_waits e =
      section_step r m n s l m' below size more el em w begins
      ∙ go l.stage e
      ∙ ap (fed w r (begun_job m' l.length)) (laid_out r m n s l m' below size more el em e)
    where
      go : (g : Stage) → is_more g ≡ true
          → fed w r (ended g bytes (begun_job m' l.length)) (drop l.taken s) ≡ fed w r (begun_job m' l.length) (drop l.taken s)
      go More e = refl
      go Bad e = absurd (true≢false (sym e))
      go Whole e = absurd (true≢false (sym e))

-- WHERE THE CODE HAS COME on the way to a: the events so far are laid, and new sections are still to follow in the bytes s for the job j
pub record Reached (t r pid : ℕ) (a : Absorbed) (n₀ : ℕ) (list₀ : List ℕ) (j : Job) (s : List ℕ) (c : Core) (n : ℕ) (list : List ℕ) : Type 0 where
  pub events : List Event
  pub next : n ≡ n₀ + length events
  pub laid : list ≡ events_laid list₀ n₀ events
  pub same : a ≡ led events (came_to t r pid (fed following r j s) (held c j.memory))

pub reached_begins : (t r pid : ℕ) (n : ℕ) (list : List ℕ) (j : Job) (s : List ℕ) (c : Core)
    → Reached t r pid (came_to t r pid (fed following r j s) (held c j.memory)) n list j s c n list
reached_begins t r pid n list j s c = record { events = []; next = sym (add-zero n); laid = sym (laid_none numbers_of record_width list n); same = refl }

-- a section more has end_acts
pub reached_acts : (t r pid : ℕ) (a : Absorbed) (n₀ : ℕ) (list₀ : List ℕ) (j j' : Job) (s s' : List ℕ) (c : Core) (n : ℕ) (list list' : List ℕ) (b : Absorbed) (m : List ℕ) (g : Left)
    → Reached t r pid a n₀ list₀ j s c n list → Shown b n list list' m g
    → came_to t r pid (fed following r j s) (held c j.memory) ≡ led b.events (came_to t r pid (fed following r j' s') b.held) → j'.memory ≡ b.held.memory
    → Reached t r pid a n₀ list₀ j' s' g.core g.n list'
reached_acts t r pid a n₀ list₀ j j' s s' c n list list' b m g i sh e em =
    let w = laid_turn numbers_of record_width (λ x. refl) n₀ n g.n list₀ list list' i.events b.events i.next i.laid sh.next sh.laid in
    let h : b.held ≡ held g.core j'.memory = ap₂ held (sym sh.core) (sym em) in
    record {
      events = i.events ++ b.events;
      next = w.0;
      laid = w.1;
      same =
          i.same
          ∙ ap (led i.events) e
          ∙ ap (λ es. record { held = (came_to t r pid (fed following r j' s') b.held).held; events = es }) (sym (append_assoc i.events b.events (came_to t r pid (fed following r j' s') b.held).events))
          ∙ ap (λ h. led (i.events ++ b.events) (came_to t r pid (fed following r j' s') h)) h;
    }

-- the payload ends
pub reached_ends : (t r pid : ℕ) (a : Absorbed) (n₀ : ℕ) (list₀ : List ℕ) (j : Job) (s : List ℕ) (c : Core) (n : ℕ) (list : List ℕ) (m : List ℕ) (half : ℕ) (ignored : Bool) (g : Left)
    → Reached t r pid a n₀ list₀ j s c n list → fed following r j s ≡ record { memory = m; half = half; finished = []; ignored = ignored } → g ≡ finished r half c n
    → Shown a n₀ list₀ list m g
unfolding absorbed_all
reached_ends t r pid a n₀ list₀ j s c n list m half ignored g i e eg =
    let z : a ≡ record { held = held (finished r half c n).core m; events = i.events }
    = i.same ∙ ap (λ k. led i.events (came_to t r pid k (held c j.memory))) e ∙ ap (λ es. record { held = held (finished r half c n).core m; events = es }) (append-nil i.events) in
    rw (z, eg) (record { core = refl; memory = refl; next = i.next; laid = i.laid })

-- NEW SECTIONS, back to back: where the next one begins at a place of the bytes s
module _ (t r pid : ℕ) (a : Absorbed) (n₀ : ℕ) (list₀ s : List ℕ) (at : ℕ) (c : Core) (m : List ℕ) (n : ℕ) (list : List ℕ)
    (reached : Reached t r pid a n₀ list₀ (begun_job m 0) (drop at s) c n list) where
  -- stuffing, and the end
  stuffed : at < length s → get_or s at 0 ≡ 255 → fed following r (begun_job m 0) (drop at s) ≡ empty true m
  unfolding fed
  stuffed h e =
      ap (fed following r (begun_job m 0)) (drop_turn s at 0 h)
      ∙ ap (λ b. fed following r (cond b (empty true m) (settled r (laid_byte r (get_or s at 0) (begun_job m 0)))) (drop (at + 1) s)) (eq-eqb (get_or s at 0) 255 e)
      ∙ fed_ignored r (empty true m) (drop (at + 1) s) refl

  pub stuffing_ends : (g : Left) → at < length s → get_or s at 0 ≡ 255 → g ≡ finished r 0 c n → Shown a n₀ list₀ list m g
  stuffing_ends g h e eg = reached_ends t r pid a n₀ list₀ (begun_job m 0) (drop at s) c n list m 0 true g reached (stuffed h e) eg

  none_left : length s ≤ at → fed following r (begun_job m 0) (drop at s) ≡ begun_job m 0
  unfolding fed
  none_left h = ap (fed following r (begun_job m 0)) (drop_none s at h)

  pub bytes_end : (g : Left) → length s ≤ at → g ≡ finished r 0 c n → Shown a n₀ list₀ list m g
  bytes_end g h eg = reached_ends t r pid a n₀ list₀ (begun_job m 0) (drop at s) c n list m 0 false g reached (none_left h) eg

-- ONE SECTION MORE: a step at the place `at` of the bytes s, which is no stuffing
pub record NewSection (r : ℕ) (s : List ℕ) (at : ℕ) (c : Core) (m list : List ℕ) (l : Laid) (m' : List ℕ) : Type 0 where
  pub room : r < room_count
  pub fit : Fit c m list
  pub step : l ≡ laid_of (greatest_length r) (half_built m r 0) 0 (drop at s)
  pub memory : m' ≡ laid_in r m 0 (take l.taken (drop at s))
  pub here : at < length s
  pub table : get_or s at 0 ≡ 255 → ⊥

-- its bytes as the code hands them on
pub new_section : {r : ℕ} {s : List ℕ} {at : ℕ} {c : Core} {m list : List ℕ} {l : Laid} {m' : List ℕ} → r < room_count → Fit c m list
    → l ≡ laid_of (greatest_length r) (half_built m r 0) 0 (take (length s - at) (drop at s)) → m' ≡ laid_in r m 0 (take l.taken (take (length s - at) (drop at s)))
    → at < length s → (get_or s at 0 ≡ 255 → ⊥) → NewSection r s at c m list l m'
new_section {s = s} {at = at} room fit step memory here table =
    let all = rest_all s at in
    record { room = room; fit = fit; step = rw all at step; memory = rw all at memory; here = here; table = table }

module _ {r : ℕ} {s : List ℕ} {at : ℕ} {c : Core} {m list : List ℕ} {l : Laid} {m' : List ℕ} (q : NewSection r s at c m list l m') where
  begins : Begins following r (begun_job m 0) (drop at s)
  begins = rw (drop_turn s at 0 q.here, ne_eqb (get_or s at 0) 255 q.table)

  pub section_fit : Fit c m' list
  section_fit =
      record {
        whole = laid_size r m 0 (drop at s) l m' q.room q.fit.whole (empty_more m r) q.step q.memory;
        listed = q.fit.listed;
        rooms = q.fit.rooms;
        halves = q.fit.halves;
        numbers = q.fit.numbers;
      }

  pub section_inside : room_base r + l.length ≤ memory_size
  section_inside = laid_fits r m 0 (drop at s) l m' q.room q.fit.whole (empty_more m r) q.step q.memory

  pub section_three : is_more l.stage ≡ false → 3 ≤ l.taken
  section_three e = laid_three r m 0 (drop at s) l m' q.room q.fit.whole (empty_more m r) q.step q.memory refl e

  module _ {t pid : ℕ} {a : Absorbed} {n₀ : ℕ} {list₀ : List ℕ} {n : ℕ} (reached : Reached t r pid a n₀ list₀ (begun_job m 0) (drop at s) c n list) where
    pub section_waits : (g : Left) → is_more l.stage ≡ true → g ≡ finished r l.length c n → Shown a n₀ list₀ list m' g
    section_waits g e eg =
        reached_ends t r pid a n₀ list₀ (begun_job m 0) (drop at s) c n list m' l.length false g reached
        (step_waits t r pid m 0 (drop at s) l m' q.room q.fit.whole (empty_more m r) q.step q.memory following begins e) eg

    module _ {b : Left} {m'' list' : List ℕ} (sh : Shown (end_acts t r pid l.stage (half_built m' r l.length) (held c m')) n list list' m'' b) (e : is_more l.stage ≡ false) where
      section_acts : Reached t r pid a n₀ list₀ (empty (is_bad l.stage) m'') (drop (at + l.taken) s) b.core b.n list'
      section_acts =
          let after = end_acts t r pid l.stage (half_built m' r l.length) (held c m') in
          let on : came_to t r pid (fed following r (begun_job m 0) (drop at s)) (held c m) ≡ led after.events (came_to t r pid (fed following r (empty (is_bad l.stage) m'') (drop (at + l.taken) s)) after.held)
          = step_acts t r pid m 0 (drop at s) l m' q.room q.fit.whole (empty_more m r) q.step q.memory following begins c m q.fit.rooms e
          ∙ ap₂ (λ (z x : List ℕ). led after.events (came_to t r pid (fed following r (empty (is_bad l.stage) z) x) after.held)) (sym sh.memory) (drop-drop l.taken at s) in
          reached_acts t r pid a n₀ list₀ (begun_job m 0) (empty (is_bad l.stage) m'') (drop at s) (drop (at + l.taken) s) c n list list' after m'' b reached sh on sh.memory

      pub section_leaves : b.core.count ≤ 16 → Fit b.core m'' list'
      section_leaves most = fit_acted t r pid l.stage (half_built m' r l.length) c m' list m'' list' n b section_fit sh most

      pub section_follows : is_bad l.stage ≡ false → Reached t r pid a n₀ list₀ (begun_job m'' 0) (drop (at + l.taken) s) b.core b.n list'
      section_follows good = rw good at section_acts

      pub section_stops : (g : Left) → is_bad l.stage ≡ true → g ≡ finished r 0 b.core b.n → Shown a n₀ list₀ list' m'' g
      section_stops g bad eg =
          reached_ends t r pid a n₀ list₀ (empty (is_bad l.stage) m'') (drop (at + l.taken) s) b.core b.n list' m'' 0 (is_bad l.stage) g section_acts
          (fed_ignored r (empty (is_bad l.stage) m'') (drop (at + l.taken) s) bad) eg
