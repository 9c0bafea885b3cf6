-- What feeding bytes to a section leaves as it was: the sections finished before, the room's soundness, and memory outside the room.
-- Assumes nothing.
use mathlib.Core.Path.{◌≡◌, refl, sym, ap, ◌∙◌}
use mathlib.Core.Logic.{◌≢◌}
use mathlib.Core.Bool.{Bool, true, false, cond, ◌&&◌}
use mathlib.Core.List.{List, [], ◌∷◌, ◌++◌, append_assoc}
use Prim.Native.Nat.{ℕ, ◌+◌, ◌≤◌, ◌<◌}
use native.Mathlib.Omega.{arith}
use lib.Dec.{ltb, eqb}
use lib.ListN.{length, set, take, drop, length-set}
use Rattle.lists.specs.Places.{part}
use Rattle.lists.proofs.Tests.{cond_either}
use Rattle.sections.specs.declared.Stage.{Stage}
use Rattle.sections.specs.declared.Stage.TheVariants.{More, Bad, Whole}
use Rattle.sections.specs.Rooms.{memory_size, room_count, room_base, greatest_length, half_built}
use Rattle.sections.specs.Section.{stage_of, is_more}
use Rattle.sections.specs.Building.{Stretch, going_on, following, Finished, bad_length, whole, Job, laid_byte, dropped, ignoring, ended, settled, fed_by, fed, pointer_of, begun_job, built}
use Rattle.sections.proofs.Stages.{stage_few, half_short, room_fits}
use Rattle.sections.proofs.Rooms.{room_sets}

-- two choices that are made alike
pub cond_alike : {A : Type 0} (P : A → A → Type 0) (a b : Bool) (x y u v : A) → a ≡ b → P x u → P y v → P (cond a x y) (cond b u v)
cond_alike P true b x y u v e p q = rw (sym e) p
cond_alike P false b x y u v e p q = rw (sym e) q

-- ONE BYTE of two jobs with as many half-built bytes: both ignore it, or both the rest with it, or it goes to both sections
pub byte_alike : (P : Job → Job → Type 0) (w : Stretch) (r b : ℕ) (j k : Job) → j.half ≡ k.half → j.ignored ≡ k.ignored
    → P j k → P (ignoring j) (ignoring k) → P (settled r (laid_byte r b j)) (settled r (laid_byte r b k)) → P (fed_by w r b j) (fed_by w r b k)
byte_alike P going_on r b j k h i p q s =
    cond_alike P (eqb j.half 0) (eqb k.half 0) j (settled r (laid_byte r b j)) k (settled r (laid_byte r b k)) (ap (λ n. eqb n 0) h) p s
byte_alike P following r b j k h i p q s =
    cond_alike P j.ignored k.ignored j (fresh j) k (fresh k) i p
    (cond_alike P (eqb j.half 0 && eqb b 0xFF) (eqb k.half 0 && eqb b 0xFF) (ignoring j) (settled r (laid_byte r b j)) (ignoring k) (settled r (laid_byte r b k)) (ap (λ n. eqb n 0 && eqb b 0xFF) h) q s)
  where
    fresh : Job → Job
    fresh i = cond (eqb i.half 0 && eqb b 0xFF) (ignoring i) (settled r (laid_byte r b i))

-- of one job
pub byte_either : (P : Job → Type 0) (w : Stretch) (r b : ℕ) (j : Job) → P j → P (ignoring j) → P (settled r (laid_byte r b j)) → P (fed_by w r b j)
byte_either P w r b j p q s = byte_alike (λ i k. P i) w r b j j refl refl p q s

-- SOME BYTES, of two jobs and of one: what holds where the rest is ignored, and where a byte is laid
module _ (P : Job → Job → Type 0) (r : ℕ) (alike : (j k : Job) → P j k → (j.half ≡ k.half) × (j.ignored ≡ k.ignored))
    (ignores : (j k : Job) → P j k → P (ignoring j) (ignoring k))
    (settles : (b : ℕ) (j k : Job) → P j k → P (settled r (laid_byte r b j)) (settled r (laid_byte r b k))) where
  pub fed_alike : (w : Stretch) (j k : Job) (s : List ℕ) → P j k → P (fed w r j s) (fed w r k s)
  unfolding fed
  fed_alike w j k [] p = p
  fed_alike w j k (b ∷ s) p =
      fed_alike w (fed_by w r b j) (fed_by w r b k) s (byte_alike P w r b j k (alike j k p).0 (alike j k p).1 p (ignores j k p) (settles b j k p))

  -- A PAYLOAD: and where the half-built section is dropped
  pub built_alike : (m m' : List ℕ) (n n' : ℕ) (start : Bool) (s : List ℕ) → ((j k : Job) → P j k → P (dropped j) (dropped k)) → P (begun_job m n) (begun_job m' n')
      → P (built r m n start s) (built r m' n' start s)
  unfolding built
  built_alike m m' n n' false s drops p = fed_alike going_on (begun_job m n) (begun_job m' n') s p
  built_alike m m' n n' true s drops p =
      let led = fed going_on r (begun_job m n) (take (pointer_of s) (drop 1 s)) in
      let led' = fed going_on r (begun_job m' n') (take (pointer_of s) (drop 1 s)) in
      let near = ltb (1 + pointer_of s) (length s) in
      cond_alike P near near (fed following r (dropped led) (drop (1 + pointer_of s) s)) (dropped (begun_job m n))
      (fed following r (dropped led') (drop (1 + pointer_of s) s)) (dropped (begun_job m' n')) refl
      (fed_alike following (dropped led) (dropped led') (drop (1 + pointer_of s) s) (drops led led' (fed_alike going_on (begun_job m n) (begun_job m' n') (take (pointer_of s) (drop 1 s)) p)))
      (drops (begun_job m n) (begun_job m' n') p)

module _ (P : Job → Type 0) (r : ℕ) (ignores : (j : Job) → P j → P (ignoring j)) (settles : (b : ℕ) (j : Job) → P j → P (settled r (laid_byte r b j))) where
  pub fed_either : (w : Stretch) (j : Job) (s : List ℕ) → P j → P (fed w r j s)
  unfolding fed
  fed_either w j [] p = p
  fed_either w j (b ∷ s) p = fed_either w (fed_by w r b j) s (byte_either P w r b j p (ignores j p) (settles b j p))

  pub built_either : (m : List ℕ) (n : ℕ) (start : Bool) (s : List ℕ) → ((j : Job) → P j → P (dropped j)) → P (begun_job m n) → P (built r m n start s)
  unfolding built
  built_either m n false s drops p = fed_either going_on (begun_job m n) s p
  built_either m n true s drops p =
      let led = fed going_on r (begun_job m n) (take (pointer_of s) (drop 1 s)) in
      cond_either P (ltb (1 + pointer_of s) (length s)) (fed following r (dropped led) (drop (1 + pointer_of s) s)) (dropped (begun_job m n))
      (fed_either following (dropped led) (drop (1 + pointer_of s) s) (drops led (fed_either going_on (begun_job m n) (take (pointer_of s) (drop 1 s)) p)))
      (drops (begun_job m n) p)

-- SECTIONS FINISHED BEFORE
abbrev pub behind : List Finished → Job → Job
behind fs j = record { memory = j.memory; half = j.half; finished = fs ++ j.finished; ignored = j.ignored }

ended_behind : (fs : List Finished) (g : Stage) (s : List ℕ) (j : Job) → ended g s (behind fs j) ≡ behind fs (ended g s j)
ended_behind fs More s j = refl
ended_behind fs Bad s j = rw (append_assoc fs j.finished (bad_length ∷ []))
ended_behind fs Whole s j = rw (append_assoc fs j.finished (whole s ∷ []))

pub fed_behind : (fs : List Finished) (w : Stretch) (r : ℕ) (j : Job) (s : List ℕ) → fed w r (behind fs j) s ≡ behind fs (fed w r j s)
fed_behind fs w r j s =
    fed_alike (λ i k. i ≡ behind fs k) r (λ i k e. (ap (λ (x : Job). x.half) e, ap (λ (x : Job). x.ignored) e)) (λ i k e. ap ignoring e)
    (λ b i k e.
    let x = laid_byte r b k in
    ap (λ y. settled r (laid_byte r b y)) e ∙ ended_behind fs (stage_of (greatest_length r) (half_built x.memory r x.half)) (half_built x.memory r x.half) x)
    w (behind fs j) j s refl

-- A SOUND ROOM stays sound
pub record SoundJob (r : ℕ) (j : Job) : Type 0 where
  pub size : length j.memory ≡ memory_size
  pub more : is_more (stage_of (greatest_length r) (half_built j.memory r j.half)) ≡ true

pub empty_more : (m : List ℕ) (r : ℕ) → is_more (stage_of (greatest_length r) (half_built m r 0)) ≡ true
unfolding part
empty_more m r = ap is_more (stage_few (greatest_length r) [] (omega arith))

pub sound_short : (r : ℕ) (j : Job) → r < room_count → SoundJob r j → j.half < greatest_length r + 3
sound_short r j below q = half_short j.memory (room_base r) (greatest_length r) j.half (omega (arith, room_fits r below, q.size)) q.more

pub sound_ended : (r : ℕ) (g : Stage) (s : List ℕ) (j : Job) → length j.memory ≡ memory_size
    → stage_of (greatest_length r) (half_built j.memory r j.half) ≡ g → SoundJob r (ended g s j)
sound_ended r More s j l e = record { size = l; more = ap is_more e }
sound_ended r Bad s j l e = record { size = l; more = empty_more j.memory r }
sound_ended r Whole s j l e = record { size = l; more = empty_more j.memory r }

pub sound_settled : (r b : ℕ) (j : Job) → SoundJob r j → SoundJob r (settled r (laid_byte r b j))
sound_settled r b j q =
    let i = laid_byte r b j in
    sound_ended r (stage_of (greatest_length r) (half_built i.memory r i.half)) (half_built i.memory r i.half) i (length-set j.memory (room_base r + j.half) b ∙ q.size) refl

pub sound_ignoring : (r : ℕ) (j : Job) → SoundJob r j → SoundJob r (ignoring j)
sound_ignoring r j q = record { size = q.size; more = q.more }

pub fed_sound : (w : Stretch) (r : ℕ) (j : Job) (s : List ℕ) → SoundJob r j → SoundJob r (fed w r j s)
fed_sound w r j s q = fed_either (SoundJob r) r (sound_ignoring r) (sound_settled r) w j s q

-- THE OTHER ROOMS are as they were in the memory m
pub record Within (r : ℕ) (m : List ℕ) (j : Job) : Type 0 where
  pub size : length j.memory ≡ memory_size
  pub more : is_more (stage_of (greatest_length r) (half_built j.memory r j.half)) ≡ true
  pub others : (q n : ℕ) → q < room_count → r ≢ q → n ≤ greatest_length q + 3 → half_built j.memory q n ≡ half_built m q n

ended_memory : (g : Stage) (s : List ℕ) (j : Job) → (ended g s j).memory ≡ j.memory
ended_memory More s j = refl
ended_memory Bad s j = refl
ended_memory Whole s j = refl

module _ (r : ℕ) (m : List ℕ) (below : r < room_count) where
  within_sound : (j : Job) → Within r m j → SoundJob r j
  within_sound j w = record { size = w.size; more = w.more }

  pub settled_within : (b : ℕ) (j : Job) → Within r m j → Within r m (settled r (laid_byte r b j))
  settled_within b j w =
      let i = laid_byte r b j in
      let h = half_built i.memory r i.half in
      let sound = sound_settled r b j (within_sound j w) in
      record {
        size = sound.size;
        more = sound.more;
        others =
            λ q n there apart fits.
            ap (λ z. half_built z q n) (ended_memory (stage_of (greatest_length r) h) h i)
            ∙ room_sets j.memory r q j.half n (b ∷ []) below there apart (omega (arith, sound_short r j below (within_sound j w))) fits
            ∙ w.others q n there apart fits;
      }

  pub ignoring_within : (j : Job) → Within r m j → Within r m (ignoring j)
  ignoring_within j w = record { size = w.size; more = w.more; others = w.others }

  pub dropped_within : (j : Job) → Within r m j → Within r m (dropped j)
  dropped_within j w = record { size = w.size; more = empty_more j.memory r; others = w.others }

  pub begun_within : (n : ℕ) → is_more (stage_of (greatest_length r) (half_built m r n)) ≡ true → length m ≡ memory_size → Within r m (begun_job m n)
  begun_within n e l = record { size = l; more = e; others = λ q k there apart fits. refl }

  pub built_within : (n : ℕ) (start : Bool) (s : List ℕ) → is_more (stage_of (greatest_length r) (half_built m r n)) ≡ true → length m ≡ memory_size → Within r m (built r m n start s)
  built_within n start s e l = built_either (Within r m) r ignoring_within settled_within m n start s dropped_within (begun_within n e l)

-- MEMORY OUTSIDE THE ROOM: what moves bytes elsewhere alone, f, may come before the bytes or after them
pub record Elsewhere (r : ℕ) (f : List ℕ → List ℕ) : Type 0 where
  pub size : (m : List ℕ) → length (f m) ≡ length m
  pub reads : (m : List ℕ) (n : ℕ) → n ≤ greatest_length r + 3 → half_built (f m) r n ≡ half_built m r n
  pub lays : (m : List ℕ) (i b : ℕ) → i < greatest_length r + 3 → set (f m) (room_base r + i) b ≡ f (set m (room_base r + i) b)

abbrev pub moved : (List ℕ → List ℕ) → Job → Job
moved f j = record { memory = f j.memory; half = j.half; finished = j.finished; ignored = j.ignored }

ended_moved : (f : List ℕ → List ℕ) (g : Stage) (s : List ℕ) (j : Job) → ended g s (moved f j) ≡ moved f (ended g s j)
ended_moved f More s j = refl
ended_moved f Bad s j = refl
ended_moved f Whole s j = refl

module _ (r : ℕ) (f : List ℕ → List ℕ) (below : r < room_count) (e : Elsewhere r f) where
  settled_moved : (b : ℕ) (j : Job) → SoundJob r j → settled r (laid_byte r b (moved f j)) ≡ moved f (settled r (laid_byte r b j))
  settled_moved b j q =
      let i = laid_byte r b j in
      let short = sound_short r j below q in
      ap (λ m. settled r (record { memory = m; half = j.half + 1; finished = j.finished; ignored = j.ignored })) (e.lays j.memory j.half b short)
      ∙ ap (λ h. ended (stage_of (greatest_length r) h) h (moved f i)) (e.reads i.memory i.half (omega arith))
      ∙ ended_moved f (stage_of (greatest_length r) (half_built i.memory r i.half)) (half_built i.memory r i.half) i

  pub fed_moved : (w : Stretch) (j : Job) (s : List ℕ) → SoundJob r j → fed w r (moved f j) s ≡ moved f (fed w r j s)
  fed_moved w j s q =
      (fed_alike (λ i k. (i ≡ moved f k) × SoundJob r k) r (λ i k p. (ap (λ (x : Job). x.half) p.0, ap (λ (x : Job). x.ignored) p.0))
      (λ i k p. (ap ignoring p.0, sound_ignoring r k p.1))
      (λ b i k p. (ap (λ y. settled r (laid_byte r b y)) p.0 ∙ settled_moved b k p.1, sound_settled r b k p.1))
      w (moved f j) j s (refl, q)
      ).0
