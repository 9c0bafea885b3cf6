-- `payloads::build` meets its contract. Assumes nothing.
use native.Mathlib.Omega.{arith}
use mathlib.Core.Path.{◌≡◌, refl, ap}
use mathlib.Core.Bool.{true, false}
use mathlib.Core.List.{List}
use Prim.Native.Nat.{ℕ, ◌+◌, ◌-◌}
use lib.ListN.{length, take, drop, length-take, length-drop}
use Rattle.std.proofs.Common.{is_none}
use Rattle.lists.proofs.Places.{part_length}
use Rattle.sections.specs.Building.{going_on, fed, dropped, begun_job}
use Rattle.sections.specs.Rooms.{memory_size, room_count}
use Rattle.programmes.specs.Places.{half_at}
use Rattle.arrays.specs.Lent.{core_in, halves_at, word_count}
use Rattle.payloads.specs.inner.Taking.{Takable}
use Rattle.payloads.specs.inner.Parts.{finished, Went, Gone, Fit}
use Rattle.payloads.proofs.Payloads.{shown_idle, Resuming, gone_fit, no_start, rest_ignored, rest_follows, taken_no_start, taken_far, taken_near}
use Rattle.payloads.proofs.Soundness.{takable_more, takable_fit}
use Rattle.payloads.proofs.build.Goals as goal

-- what a payload may be taken into, its sections may act on
fits : (times words : List ℕ) {m s list : List ℕ} {r n : ℕ} → Takable (core_in times words) m r s n list → length m ≡ memory_size → length words ≡ word_count → Fit (core_in times words) m list
fits times words q whole wide = takable_fit q whole (omega (arith, part_length words halves_at room_count (omega (arith, wide))))

-- a half-built section of the payload's room has gone on with the bytes s
resuming : (times words : List ℕ) {m payload s list list₁ m₁ : List ℕ} {t r pid h n : ℕ} {g : Went}
    → (q : Takable (core_in times words) m r payload n list) → length m ≡ memory_size → length words ≡ word_count → h ≡ half_at (core_in times words).half r
    → Gone t r pid (fed going_on r (begun_job m h) s) (core_in times words) n list list₁ m₁ g
    → Resuming t r pid m (half_at (core_in times words).half r) s (core_in times words) n list list₁ m₁ g
resuming times words q whole wide e gone = record { fit = fits times words q whole wide; more = takable_more q; gone = rw e at gone }

pub resume-g-requires : goal.resume-g-requires
resume-g-requires c =
    let q = c.requires in
    record { fit = fits _ _ q (omega arith) (omega arith); few = (q.payload, omega (arith, q.places)); more = rw c.half_in-half.ensures (takable_more q) }

pub returns-then-not-start-clause-shown : goal.returns-then-not-start-clause-shown
returns-then-not-start-clause-shown c =
    let args = c.args in
    let a = args.a in
    let core = core_in args.times.now args.words.now in
    let resume = c.resume-g in
    let q = resuming _ _ c.requires (omega arith) (omega arith) c.half_in-half.ensures resume.ensures.gone in
    let e = taken_no_start a.time a.room a.pid args.start args.payload.now core args.memory.now c.if-not-start.true in
    rw e (no_start q _ (ap (λ k. finished a.room k (core_in resume.new.times resume.new.words) resume.result.n) c.unwrap_or.ensures))

pub returns-then-payload-e-clause-shown : goal.returns-then-payload-e-clause-shown
returns-then-payload-e-clause-shown c =
    let args = c.args in
    let a = args.a in
    let core = core_in args.times.now args.words.now in
    let j = dropped (begun_job args.memory.now (half_at core.half a.room)) in
    let e = taken_far a.time a.room a.pid args.start args.payload.now core args.memory.now c.if-not-start.false c.byte_at-e.result c.byte_at-e.ensures.0 c.if-payload-e.true in
    rw e (shown_idle a.time a.room a.pid j core args.n 0 args.numbers.now _ refl refl refl)

pub resume-g-requires-2 : goal.resume-g-requires-2
resume-g-requires-2 c =
    let q = c.requires in
    record { fit = fits _ _ q (omega arith) (omega arith); few = (simp (length-take, length-drop) (omega (arith, q.payload)), omega (arith, q.places)); more = rw c.half_in-half.ensures (takable_more q) }

pub returns-then-is_none-clause-shown : goal.returns-then-is_none-clause-shown
returns-then-is_none-clause-shown c =
    let args = c.args in
    let a = args.a in
    let core = core_in args.times.now args.words.now in
    let p = c.byte_at-e.result in
    let resume = c.resume-g-2 in
    let q = resuming _ _ c.requires (omega arith) (omega arith) c.half_in-half.ensures resume.ensures.gone in
    let e = taken_near a.time a.room a.pid args.start args.payload.now core args.memory.now c.if-not-start.false p c.byte_at-e.ensures.0 c.if-payload-e.false in
    let rest = take (length args.payload.now - (1 + p)) (drop (1 + p) args.payload.now) in
    let ignored : is_none resume.result.half ≡ true = rw (c.is_none.ensures, c.if-is_none.true) in
    rw e (rest_ignored q rest _ ignored refl)

pub follow-requires-clause-fit : goal.follow-requires-clause-fit
follow-requires-clause-fit c =
    let resume = c.resume-g-2 in
    let q = resuming _ _ c.requires (omega arith) (omega arith) c.half_in-half.ensures resume.ensures.gone in
    gone_fit q resume.ensures.moved.1

pub returns-clause-shown : goal.returns-clause-shown
returns-clause-shown c =
    let args = c.args in
    let a = args.a in
    let core = core_in args.times.now args.words.now in
    let p = c.byte_at-e.result in
    let resume = c.resume-g-2 in
    let q = resuming _ _ c.requires (omega arith) (omega arith) c.half_in-half.ensures resume.ensures.gone in
    let e = taken_near a.time a.room a.pid args.start args.payload.now core args.memory.now c.if-not-start.false p c.byte_at-e.ensures.0 c.if-payload-e.false in
    let rest = take (length args.payload.now - (1 + p)) (drop (1 + p) args.payload.now) in
    let goes_on : is_none resume.result.half ≡ false = rw (c.is_none.ensures, c.if-is_none.false) in
    rw e (rest_follows q rest _ _ _ goes_on c.follow.ensures.shown)
