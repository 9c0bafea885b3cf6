-- A payload: what goes on, and what begins. Assumes nothing.
use mathlib.Core.Path.{◌≡◌, refl, sym, ap, subst, ◌∙◌}
use mathlib.Core.Bool.{Bool, true, false, true≢false}
use mathlib.Core.List.{List, [], ◌∷◌, append-nil}
use Prim.Native.Nat.{ℕ, ◌+◌, ◌-◌, ◌≤◌, ◌<◌}
use native.Mathlib.Nat.{add-zero}
use native.Mathlib.Omega.{arith}
use lib.Dec.{eqb}
use lib.ListN.{length, take, drop}
use borrow.Author.Tests.{lt-ltb, le-ltb}
use Rattle.lists.proofs.Tests.{cond_either}
use Rattle.lists.proofs.Turns.{rest_all}
use Rattle.lists.proofs.Laying.{laid_none, laid_length, laid_turn}
use Rattle.events.specs.Events.{numbers_of}
use Rattle.events.specs.Capacity.{record_width}
use Rattle.sections.specs.declared.Stage.{Stage}
use Rattle.sections.specs.declared.Stage.TheVariants.{More, Bad, Whole}
use Rattle.sections.specs.declared.Laid.{Laid}
use Rattle.sections.specs.Rooms.{memory_size, room_count, room_base, greatest_length, half_built}
use Rattle.sections.specs.Section.{stage_of, is_more}
use Rattle.sections.specs.Building.{going_on, following, Finished, whole, Job, dropped, ended, fed, pointer_of, begun_job, built}
use Rattle.sections.specs.inner.Steps.{laid_of, laid_in}
use Rattle.sections.proofs.Counts.{fed_none, fed_ignored, going_most}
use Rattle.sections.proofs.Chunks.{Begins, begins_within}
use Rattle.sections.proofs.Jobs.{behind, SoundJob, fed_sound, empty_more}
use Rattle.sections.proofs.Takes.{laid_size, laid_short, laid_fits, section_step}
use Rattle.programmes.specs.Places.{half_at}
use Rattle.calls.specs.declared.Core.{Core}
use Rattle.calls.specs.Steps.{arrival, Absorbed, absorbed_all, absorbed, sections_taken}
use Rattle.payloads.specs.inner.Taking.{held}
use Rattle.payloads.specs.inner.Parts.{came_to, end_acts, is_bad, Left, finished, Shown, Went, Gone, Fit}
use Rattle.payloads.proofs.Actions.{led, in_memory, came_behind}
use Rattle.payloads.proofs.Kept.{few_kept}
use Rattle.payloads.proofs.Sections.{empty, step_waits}

greatest_most : (r : ℕ) → greatest_length r ≤ 4093
greatest_most r = cond_either (λ n. n ≤ 4093) (eqb r 3) 4093 1021 (omega arith) (omega arith)

-- WHAT GOES ON
-- no section is half-built
pub gone_none : (t r pid : ℕ) (m : List ℕ) (n : ℕ) (s : List ℕ) (c : Core) (place : ℕ) (list : List ℕ) → n ≡ 0
    → Gone t r pid (fed going_on r (begun_job m n) s) c place list list m (record { core = c; n = place; half = 0; ignored = false })
unfolding absorbed_all
gone_none t r pid m n s c place list z =
    rw (fed_none r (begun_job m n) s z)
    (record { shown = record { core = refl; memory = refl; next = sym (add-zero place); laid = sym (laid_none numbers_of record_width list place) }; half = sym z; ignored = refl })

-- one is, and a step lays bytes behind it
pub record HalfBuilt (r : ℕ) (m : List ℕ) (n : ℕ) (s : List ℕ) (l : Laid) (m' : List ℕ) (c : Core) (list : List ℕ) : Type 0 where
  pub room : r < room_count
  pub fit : Fit c m list
  pub more : is_more (stage_of (greatest_length r) (half_built m r n)) ≡ true
  pub step : l ≡ laid_of (greatest_length r) (half_built m r n) n s
  pub memory : m' ≡ laid_in r m n (take l.taken s)
  pub some : n ≡ 0 → ⊥

pub half_built_now : {r : ℕ} {m : List ℕ} {n : ℕ} {s : List ℕ} {l : Laid} {m' : List ℕ} {c : Core} {list : List ℕ}
    → r < room_count → Fit c m list → is_more (stage_of (greatest_length r) (half_built m r n)) ≡ true
    → l ≡ laid_of (greatest_length r) (half_built m r n) n s → m' ≡ laid_in r m n (take l.taken s) → (n ≡ 0 → ⊥) → HalfBuilt r m n s l m' c list
half_built_now room fit more step memory some = record { room = room; fit = fit; more = more; step = step; memory = memory; some = some }

module _ {r : ℕ} {m : List ℕ} {n : ℕ} {s : List ℕ} {l : Laid} {m' : List ℕ} {c : Core} {list : List ℕ} (q : HalfBuilt r m n s l m' c list) where
  begins : Begins going_on r (begun_job m n) s
  begins = begins_within going_on r (begun_job m n) s refl q.some

  pub going_fit : Fit c m' list
  going_fit =
      record {
        whole = laid_size r m n s l m' q.room q.fit.whole q.more q.step q.memory;
        listed = q.fit.listed;
        rooms = q.fit.rooms;
        halves = q.fit.halves;
        numbers = q.fit.numbers;
      }

  pub going_inside : room_base r + l.length ≤ memory_size
  going_inside = laid_fits r m n s l m' q.room q.fit.whole q.more q.step q.memory

  pub going_short : l.length ≤ 4096
  going_short = omega (arith, laid_short r m n s l m' q.room q.fit.whole q.more q.step q.memory, greatest_most r)

  module _ (t pid place : ℕ) where
    pub gone_waits : is_more l.stage ≡ true
        → Gone t r pid (fed going_on r (begun_job m n) s) c place list list m' (record { core = c; n = place; half = l.length; ignored = false })
    unfolding absorbed_all
    gone_waits e =
        rw (step_waits t r pid m n s l m' q.room q.fit.whole q.more q.step q.memory going_on begins e)
        (record { shown = record { core = refl; memory = refl; next = sym (add-zero place); laid = sym (laid_none numbers_of record_width list place) }; half = refl; ignored = refl })

    pub gone_acts : {b : Left} {m'' list' : List ℕ} → Shown (end_acts t r pid l.stage (half_built m' r l.length) (held c m')) place list list' m'' b → is_more l.stage ≡ false
        → Gone t r pid (fed going_on r (begun_job m n) s) c place list list' m'' (record { core = b.core; n = b.n; half = 0; ignored = is_bad l.stage })
    unfolding absorbed_all
    gone_acts {b = b} {m'' = m''} {list' = list'} sh e =
        rw (section_step r m n s l m' q.room q.fit.whole q.more q.step q.memory going_on begins) (go l.stage e sh)
      where
        go : (g : Stage) → is_more g ≡ false → Shown (end_acts t r pid g (half_built m' r l.length) (held c m')) place list list' m'' b
            → Gone t r pid (fed going_on r (ended g (half_built m' r l.length) (begun_job m' l.length)) (drop l.taken s)) c place list list' m'' (record { core = b.core; n = b.n; half = 0; ignored = is_bad g })
        go More e sh = absurd (true≢false e)
        go Bad e sh =
            rw (fed_none r (ended Bad [] (begun_job m' l.length)) (drop l.taken s) refl)
            (record { shown = record { core = sh.core; memory = sh.memory; next = sh.next; laid = sh.laid }; half = refl; ignored = refl })
        go Whole e sh =
            let x = half_built m' r l.length in
            rw (fed_none r (ended Whole x (begun_job m' l.length)) (drop l.taken s) refl)
            (record { shown = rw (append-nil (absorbed (arrival t r pid) (whole x) (held c m')).events) (record { core = sh.core; memory = sh.memory; next = sh.next; laid = sh.laid }); half = refl; ignored = refl })

-- AND THEN: what the half-built section came to acts first
few_behind : (t r pid : ℕ) (fs : List Finished) → length fs ≤ 1 → (j : Job) (s : List ℕ) (c : Core) (m₀ : List ℕ) → SoundJob r j → 5 ≤ length c.half
    → came_to t r pid (fed following r (behind fs j) s) (held c m₀)
    ≡ led (absorbed_all (arrival t r pid) fs (held c j.memory)).events
    (came_to t r pid (fed following r (in_memory (absorbed_all (arrival t r pid) fs (held c j.memory)).held.memory j) s) (absorbed_all (arrival t r pid) fs (held c j.memory)).held)
unfolding absorbed_all
few_behind t r pid [] h j s c m₀ q halves = refl
few_behind t r pid (f ∷ []) h j s c m₀ q halves =
    let a = absorbed (arrival t r pid) f (held c j.memory) in
    came_behind t r pid following j s c m₀ q halves f
    ∙ ap (λ es. led es (came_to t r pid (fed following r (in_memory a.held.memory j) s) a.held)) (sym (append-nil a.events))
few_behind t r pid (f ∷ g ∷ fs) h j s c m₀ q halves = absurd (omega arith)

-- what is left, by another name
pub shown_as : {a : Absorbed} {n : ℕ} {list₀ list m : List ℕ} {g g' : Left} → g ≡ g' → Shown a n list₀ list m g → Shown a n list₀ list m g'
shown_as {a = a} {n = n} {list₀ = list₀} {list = list} {m = m} e x = subst (λ (g : Left). Shown a n list₀ list m g) e x

-- one after the other
pub shown_led : (a b : Absorbed) (n : ℕ) (list₀ list list' m m' : List ℕ) (g g' : Left)
    → Shown a n list₀ list m g → Shown b g.n list list' m' g' → Shown (led a.events b) n list₀ list' m' g'
shown_led a b n list₀ list list' m m' g g' x y =
    let w = laid_turn numbers_of record_width (λ e. refl) n g.n g'.n list₀ list list' a.events b.events x.next x.laid y.next y.laid in
    record { core = y.core; memory = y.memory; next = w.0; laid = w.1 }

-- an idle job leaves the room as it says
pub shown_idle : (t r pid : ℕ) (j : Job) (c : Core) (n half : ℕ) (list : List ℕ) (g : Left) → j.finished ≡ [] → half ≡ j.half → g ≡ finished r half c n
    → Shown (came_to t r pid j (held c j.memory)) n list list j.memory g
unfolding absorbed_all
shown_idle t r pid j c n half list g e eh eg =
    rw (e, eg, eh) (record { core = refl; memory = refl; next = sym (add-zero n); laid = sym (laid_none numbers_of record_width list n) })

-- a half-built section has gone on: what it came to, and what it was given
pub record Resuming (t r pid : ℕ) (m : List ℕ) (n : ℕ) (s : List ℕ) (c : Core) (place : ℕ) (list list₁ m₁ : List ℕ) (g : Went) : Type 0 where
  pub fit : Fit c m list
  pub more : is_more (stage_of (greatest_length r) (half_built m r n)) ≡ true
  pub gone : Gone t r pid (fed going_on r (begun_job m n) s) c place list list₁ m₁ g

module _ {t r pid : ℕ} {m : List ℕ} {n : ℕ} {s : List ℕ} {c : Core} {place : ℕ} {list list₁ m₁ : List ℕ} {g : Went} (q : Resuming t r pid m n s c place list list₁ m₁ g) where
  abbrev job : Job
  job = fed going_on r (begun_job m n) s

  abbrev acts : Absorbed
  acts = absorbed_all (arrival t r pid) job.finished (held c job.memory)

  sound : (ignored : Bool) (half : ℕ) → is_more (stage_of (greatest_length r) (half_built job.memory r half)) ≡ true
      → SoundJob r (record { memory = job.memory; half = half; finished = []; ignored = ignored })
  sound ignored half e = record { size = (fed_sound going_on r (begun_job m n) s (record { size = q.fit.whole; more = q.more })).size; more = e }

  -- the job that follows, with the bytes at hand that are left to it
  next_acts : (ignored : Bool) (half : ℕ) (s' : List ℕ) → is_more (stage_of (greatest_length r) (half_built job.memory r half)) ≡ true
      → came_to t r pid (fed following r (record { memory = job.memory; half = half; finished = job.finished; ignored = ignored }) s') (held c m)
      ≡ led acts.events (came_to t r pid (fed following r (record { memory = acts.held.memory; half = half; finished = []; ignored = ignored }) s') acts.held)
  next_acts ignored half s' e =
      ap (λ fs. came_to t r pid (fed following r (record { memory = job.memory; half = half; finished = fs; ignored = ignored }) s') (held c m)) (sym (append-nil job.finished))
      ∙ few_behind t r pid job.finished (going_most r (begun_job m n) s) (record { memory = job.memory; half = half; finished = []; ignored = ignored }) s' c m (sound ignored half e) q.fit.rooms

  abbrev after : Left
  after = record { core = g.core; n = g.n }

  pub gone_fit : g.core.count ≤ 16 → Fit g.core m₁ list₁
  gone_fit most =
      let whole = (fed_sound going_on r (begun_job m n) s (record { size = q.fit.whole; more = q.more })).size in
      let k = few_kept t r pid job.finished (going_most r (begun_job m n) s) c job.memory q.fit.listed (record { whole = whole; rooms = q.fit.rooms; halves = q.fit.halves }) in
      record {
        whole = ap length q.gone.shown.memory ∙ k.whole;
        listed = most;
        rooms = rw q.gone.shown.core k.rooms;
        halves = rw q.gone.shown.core k.halves;
        numbers = omega (arith, q.fit.numbers, ap length q.gone.shown.laid ∙ laid_length numbers_of record_width list place acts.events);
      }

  -- nothing more is read
  next_idle : (ignored : Bool) (half : ℕ) (s' : List ℕ) → is_more (stage_of (greatest_length r) (half_built job.memory r half)) ≡ true
      → fed following r (record { memory = acts.held.memory; half = half; finished = []; ignored = ignored }) s' ≡ record { memory = acts.held.memory; half = half; finished = []; ignored = ignored }
      → (x : Left) (size : ℕ) → size ≡ half → x ≡ finished r size g.core g.n
      → Shown (came_to t r pid (fed following r (record { memory = job.memory; half = half; finished = job.finished; ignored = ignored }) s') (held c m)) place list list₁ m₁ x
  next_idle ignored half s' e idle x size eh ex =
      let j : Job = record { memory = acts.held.memory; half = half; finished = []; ignored = ignored } in
      let core = ex ∙ ap (λ k. finished r size k g.n) q.gone.shown.core in
      rw (next_acts ignored half s' e ∙ ap (λ k. led acts.events (came_to t r pid k acts.held)) idle, q.gone.shown.memory)
      (shown_led acts (came_to t r pid j acts.held) place list list₁ list₁ m₁ acts.held.memory after x q.gone.shown (shown_idle t r pid j acts.held.core g.n size list₁ x refl eh core))

  -- WITHOUT UNIT START
  pub no_start : (x : Left) → x ≡ finished r g.half g.core g.n → Shown (came_to t r pid job (held c m)) place list list₁ m₁ x
  unfolding fed
  no_start x e = next_idle job.ignored job.half [] (fed_sound going_on r (begun_job m n) s (record { size = q.fit.whole; more = q.more })).more refl x g.half q.gone.half e

  -- WITH UNIT START: the rest of the payload is ignored, or new sections follow
  module _ (s₂ : List ℕ) where
    pub rest_ignored : (x : Left) → g.ignored ≡ true → x ≡ finished r 0 g.core g.n
        → Shown (came_to t r pid (fed following r (dropped job) s₂) (held c m)) place list list₁ m₁ x
    rest_ignored x e ex =
        next_idle job.ignored 0 s₂ (empty_more job.memory r) (fed_ignored r (empty job.ignored acts.held.memory) s₂ (sym q.gone.ignored ∙ e)) x 0 refl ex

    pub rest_follows : (x : Left) (m₂ list₂ : List ℕ) → g.ignored ≡ false → Shown (came_to t r pid (fed following r (begun_job m₁ 0) s₂) (held g.core m₁)) g.n list₁ list₂ m₂ x
        → Shown (came_to t r pid (fed following r (dropped job) s₂) (held c m)) place list list₂ m₂ x
    rest_follows x m₂ list₂ e sh =
        let b = came_to t r pid (fed following r (begun_job acts.held.memory 0) s₂) acts.held in
        rw (sym q.gone.ignored ∙ e, next_acts false 0 s₂ (empty_more job.memory r))
        (shown_led acts b place list list₁ list₂ m₁ m₂ after x q.gone.shown (rw (q.gone.shown.core, q.gone.shown.memory) at sh))

-- THE WHOLE PAYLOAD
module _ (t r pid : ℕ) (start : Bool) (s : List ℕ) (c : Core) (m : List ℕ) where
  abbrev half : ℕ
  half = half_at c.half r

  pub taken_no_start : start ≡ false → sections_taken (arrival t r pid) start s (held c m) ≡ came_to t r pid (fed going_on r (begun_job m half) s) (held c m)
  unfolding sections_taken built
  taken_no_start e = rw e

  module _ (e : start ≡ true) (p : ℕ) (ep : p ≡ pointer_of s) where
    -- the pointer leads past the payload
    pub taken_far : length s ≤ 1 + p → sections_taken (arrival t r pid) start s (held c m) ≡ came_to t r pid (dropped (begun_job m half)) (held c m)
    unfolding sections_taken built
    taken_far h = rw (e, sym ep, le-ltb (1 + p) (length s) h)

    -- or into it
    pub taken_near : 1 + p < length s
        → sections_taken (arrival t r pid) start s (held c m)
        ≡ came_to t r pid (fed following r (dropped (fed going_on r (begun_job m half) (take (1 + p - 1) (drop 1 s)))) (take (length s - (1 + p)) (drop (1 + p) s))) (held c m)
    unfolding sections_taken built
    taken_near h =
        let z : 1 + p - 1 ≡ p = omega arith in
        rw (e, sym ep, lt-ltb (1 + p) (length s) h, z, rest_all s (1 + p))
