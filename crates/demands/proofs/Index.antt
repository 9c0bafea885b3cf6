-- The principle of the request: the PAT is an index and the PMTs are its pages. A page counts for a programme only where the index says that
-- it lies, under the number that the index gives. Assumes nothing.
use mathlib.Core.Path.{◌≡◌, refl, ap, ◌∙◌}
use mathlib.Core.Bool.{Bool, true, false, cond, true≢false}
use mathlib.Core.List.{List, [], ◌∷◌, map}
use Prim.Native.Nat.{ℕ, zero, suc, ◌≤◌, ◌<◌}
use native.Mathlib.Omega.{arith}
use lib.Dec.{eqb}
use lib.ListN.{take}
use borrow.Author.Tests.{leb-true, ne_eqb}
use Rattle.lists.specs.Places.{front}
use Rattle.watches.specs.declared.Entry.{Entry}
use Rattle.header.specs.Header.{right_sync, pid_of}
use Rattle.sections.specs.declared.Outcome.TheVariants.{Good}
use Rattle.sections.specs.Rooms.{room_count, no_room, pat_room}
use Rattle.sections.specs.Building.{Finished}
use Rattle.sections.specs.Outcomes.{is_pmt_room, outcome_of}
use Rattle.programmes.specs.Listing.{is_pair}
use Rattle.programmes.specs.Places.{is_listed}
use Rattle.calls.specs.declared.Core.{Core}
use Rattle.calls.specs.Cores.{listed, Held, room_for, with_list}
use Rattle.calls.specs.Steps.{arrival, touched, arrived_programme, bytes_of, absorbed_by, absorbed, step1}
use Rattle.calls.proofs.Moves.{From, Moves, packet_moves, sync_moves}
use Rattle.demands.specs.Listening.{pair_of, paired}
use Rattle.demands.specs.Pages.{Nowhere, Unmoved}

-- A PAGE that the index does not give
untouched : (n q t : ℕ) (k : ℕ) (es : List Entry) → paired n q (map pair_of (take k es)) ≡ false → front (touched n q t) k es ≡ es
unfolding paired
untouched n q t zero es e = refl
untouched n q t (suc k) [] e = refl
untouched n q t (suc k) (x ∷ es) e = go (is_pair n q x) e (untouched n q t k es)
  where
    go : (b : Bool) → cond b true (paired n q (map pair_of (take k es))) ≡ false
        → (paired n q (map pair_of (take k es)) ≡ false → front (touched n q t) k es ≡ es)
        → record { number = x.number; pid = x.pid; since = cond b t x.since } ∷ front (touched n q t) k es ≡ x ∷ es
    go true h ih = absurd (true≢false h)
    go false h ih = ap (λ z. x ∷ z) (ih h)

-- a good PMT section on a PID, or under a number, that the list does not give changes nothing and gives no event
pub index : (t r pid n : ℕ) (f : Finished) (h : Held) → is_pmt_room r ≡ true → outcome_of r pid f ≡ Good n
    → paired n pid (map pair_of (listed h.core)) ≡ false → absorbed (arrival t r pid) f h ≡ record { held = h; events = [] }
index t r pid n f h page good other =
    ap (λ o. absorbed_by o (arrival t r pid) (bytes_of f) h) good
    ∙ rw (pat, page) (ap (λ c. record { held = record { core = c; memory = h.memory }; events = [] }) same)
  where
    five : 5 ≤ r
    five = leb-true 5 r page

    pat : eqb r pat_room ≡ false
    pat = ne_eqb r pat_room (λ z. omega (arith, five))

    same : arrived_programme n pid t h.core ≡ h.core
    same =
        ap (λ es. with_list h.core.count es h.core)
        (untouched n pid t h.core.count h.core.entries other)

-- A PID that neither the table of fixed watches nor the index gives: whatever its packets hold, no watch moves and no list changes
nowhere_room : (q : ℕ) (c : Core) → Nowhere q c → room_for c q ≡ no_room
unfolding room_for
nowhere_room q c e = rw (e.0, e.1)

module _ (t : ℕ) (p : List ℕ) (h : Held) (e : Nowhere (pid_of p) h.core) where
  abbrev Still : Held → List ℕ → Type 0
  Still g cs = Unmoved h.core g

  -- so no payload of the PID is built
  unbuilt : (g : Held) → Unmoved h.core g → room_for g.core (pid_of p) < room_count → ⊥
  unbuilt g u inside = omega (arith, nowhere_room (pid_of p) g.core (e.0, ap (is_listed (pid_of p)) u.list ∙ e.1))

  none_built : (g : Held) (r : ℕ) (f : Finished) → From p g r f → Unmoved h.core g → ⊥
  none_built g r f from u = unbuilt g u (omega (arith, from.room, from.inside))

  still_moves : Moves t p Still
  still_moves =
      record {
        synced = λ g cs u. sync_moves (λ (c : Core). Unmoved h.core (record { core = c; memory = g.memory })) g.core
            (λ lost run sound. record { since = u.since; list = u.list }) (record { since = u.since; list = u.list }) (right_sync p);
        byte = λ g cs u. u;
        dropped = λ g cs u. record { since = u.since; list = u.list };
        built = λ g cs inside u. absurd (unbuilt g u inside);
        table = λ o g cs r f from v u. absurd (none_built o r f from v);
        page = λ o g cs r f from v u n. absurd (none_built o r f from v);
        list = λ o g cs f from v u. absurd (none_built o pat_room f from v);
      }

pub index_pid : (t : ℕ) (p counters : List ℕ) (h : Held) → Nowhere (pid_of p) h.core → Unmoved h.core (step1 t p counters h).held
index_pid t p counters h e = packet_moves t p (Still t p h e) (still_moves t p h e) counters h (record { since = refl; list = refl })
