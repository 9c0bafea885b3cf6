-- A payload that is taken keeps two states alike: in both where it is of a PID that is mine, in one where it is not. Assumes nothing.
use mathlib.Core.Path.{◌≡◌, refl, sym, ap, ◌∙◌, subst}
use mathlib.Core.Bool.{Bool, true, false, cond}
use mathlib.Core.List.{List, [], ◌∷◌}
use Prim.Native.Nat.{ℕ, ◌≤◌, ◌<◌}
use native.Mathlib.Omega.{arith}
use lib.Dec.{eqb}
use lib.ListN.{length}
use borrow.Author.Tests.{eqb-true}
use Rattle.lists.proofs.Places.{part_length}
use Rattle.watches.specs.Tables.{table_of, pat_pid, latest_time}
use Rattle.sections.specs.declared.Outcome.{Outcome}
use Rattle.sections.specs.declared.Outcome.TheVariants.{Unfinished, Good, Fault, Silent}
use Rattle.sections.specs.Rooms.{room_count, pat_room, room_base, half_built}
use Rattle.sections.specs.Building.{Finished, Job}
use Rattle.sections.specs.Outcomes.{is_pmt_room, outcome_of}
use Rattle.sections.proofs.Stages.{room_fits}
use Rattle.programmes.specs.Places.{half_at}
use Rattle.calls.specs.Cores.{listed, Held, room_for}
use Rattle.calls.specs.Steps.{arrival, arrived_table, arrived_programme, new_list, relisted, arrived_in, bytes_of, absorbed_by, absorbed, absorbed_all, job_of, built_in, sections_taken}
use Rattle.header.specs.Header.{pid_of, unit_start, payload_of}
use Rattle.calls.proofs.Moves.{table_arrived, payload_built}
use Rattle.demands.proofs.OthersRooms.{Within, Same, built_within, built_same}
use Rattle.demands.proofs.OthersLists.{alike_list, list_filled}
use Rattle.demands.proofs.OthersPids.{Shaped, shaped_fits, table_pid}
use Rattle.demands.proofs.OthersAlike.{Alike, alike_trans, Closed, alike_room, table_shaped, other_changed, other_table, other_list, own_changed, own_table, own_programme, own_list}

module _ (mine : ℕ → Bool) (closed : Closed mine) (t : ℕ) (early : t ≤ latest_time) where
  -- OF A PID THAT IS NOT MINE: its payload, and a list on PID 0
  module _ (p : List ℕ) (other : mine (pid_of p) ≡ false) (h : Held) (s : Shaped h) where
    pub other_built : room_for h.core (pid_of p) < room_count → Alike mine (payload_built p (room_for h.core (pid_of p)) h) h
    other_built room =
        let r = room_for h.core (pid_of p) in
        let j = job_of r (unit_start p) (payload_of p) h in
        let w : Within r room h.memory j = built_within r room h.memory (half_at h.core.half r) (unit_start p) (payload_of p) (s.more r room) s.memory in
        other_changed mine h s (pid_of p) other j.half j.memory room w.more w.size w.others

    pub other_relisted : (z : List ℕ) → pat_pid ≡ pid_of p → Alike mine (relisted t z h) h
    other_relisted z at-pat =
        let unlisted : mine pat_pid ≡ false = ap mine at-pat ∙ other in
        alike_trans mine (relisted t z h) (table_arrived t pat_room h) h
        (other_list mine (table_arrived t pat_room h) (table_shaped t pat_room h early s) (pid_of p) other (new_list t z h.core) (list_filled t early (listed h.core) s.starts z) unlisted (closed unlisted))
        (other_table mine h s (pid_of p) other t pat_room early (λ l. at-pat))

  -- OF A PID THAT IS MINE
  module _ (r q : ℕ) (index : r ≡ pat_room → mine pat_pid ≡ true) where
    own_arrived : (n : ℕ) (z : List ℕ) (h k : Held) → Alike mine h k → Alike mine (arrived_in (arrival t r q) n z h) (arrived_in (arrival t r q) n z k)
    own_arrived n z h k a = go (eqb r pat_room) refl
      where
        go : (b : Bool) → eqb r pat_room ≡ b
            → Alike mine
            (cond b (relisted t z h) (record { core = cond (is_pmt_room r) (arrived_programme n q t h.core) (arrived_table t r h.core); memory = h.memory }))
            (cond b (relisted t z k) (record { core = cond (is_pmt_room r) (arrived_programme n q t k.core) (arrived_table t r k.core); memory = k.memory }))
        go true e =
            own_list mine closed (table_arrived t pat_room h) (table_arrived t pat_room k) (own_table mine closed h k a t pat_room early) (new_list t z h.core) (new_list t z k.core)
            (list_filled t early (listed h.core) a.left.starts z) (list_filled t early (listed k.core) a.right.starts z) (alike_list mine t (a.lists (index (eqb-true r pat_room e))) z)
        go false e = either (is_pmt_room r)
          where
            either : (b : Bool)
                → Alike mine (record { core = cond b (arrived_programme n q t h.core) (arrived_table t r h.core); memory = h.memory })
                (record { core = cond b (arrived_programme n q t k.core) (arrived_table t r k.core); memory = k.memory })
            either true = own_programme mine closed h k a n q t early
            either false = own_table mine closed h k a t r early

    own_absorbed : (f : Finished) (h k : Held) → Alike mine h k → Alike mine (absorbed (arrival t r q) f h).held (absorbed (arrival t r q) f k).held
    own_absorbed f h k a = go (outcome_of r q f)
      where
        go : (o : Outcome) → Alike mine (absorbed_by o (arrival t r q) (bytes_of f) h).held (absorbed_by o (arrival t r q) (bytes_of f) k).held
        go Unfinished = a
        go (Good n) = own_arrived n (bytes_of f) h k a
        go (Fault x c i) = a
        go Silent = a

    own_all : (fs : List Finished) (h k : Held) → Alike mine h k → Alike mine (absorbed_all (arrival t r q) fs h).held (absorbed_all (arrival t r q) fs k).held
    unfolding absorbed_all
    own_all [] h k a = a
    own_all (f ∷ fs) h k a = own_all fs (absorbed (arrival t r q) f h).held (absorbed (arrival t r q) f k).held (own_absorbed f h k a)

  -- the half-built length of a PID that is mine
  bytes_length : (h : Held) → Shaped h → (r : ℕ) → r < room_count → length (half_built h.memory r (half_at h.core.half r)) ≡ half_at h.core.half r
  bytes_length h s r l =
      part_length h.memory (room_base r) (half_at h.core.half r) (omega (arith, shaped_fits h s r l, room_fits r l, s.memory))

  pub own_taken : (q : ℕ) (start : Bool) (z : List ℕ) (h k : Held) → Alike mine h k → mine q ≡ true → (r : ℕ) → r ≡ room_for h.core q → r < room_count
      → Alike mine (sections_taken (arrival t r q) start z h).held (sections_taken (arrival t r q) start z k).held
  unfolding sections_taken
  own_taken q start z h k a own r er room =
      subst (λ (fs : List Finished). Alike mine (absorbed_all (arrival t r q) j.finished (built_in r j h)).held (absorbed_all (arrival t r q) fs (built_in r i k)).held) same.finished
      (own_all r q index j.finished (built_in r j h) (built_in r i k)
      (own_changed mine closed h k a q j.half i.half j.memory i.memory own r er room same.left.more same.right.more same.left.size same.right.size
      same.left.others same.right.others same.bytes))
    where
      j : Job
      j = job_of r start z h

      i : Job
      i = job_of r start z k

      bytes : half_built h.memory r (half_at h.core.half r) ≡ half_built k.memory r (half_at k.core.half r)
      bytes =
          ap (λ p. half_built h.memory p (half_at h.core.half p)) er
          ∙ a.bytes q own
          ∙ ap (λ p. half_built k.memory p (half_at k.core.half p)) (sym (alike_room mine closed h k a q own) ∙ sym er)

      same : Same r room h.memory k.memory j i
      same =
          built_same r room h.memory k.memory (half_at h.core.half r) (half_at k.core.half r) start z (a.left.more r room) a.left.memory a.right.memory
          (sym (bytes_length h a.left r room) ∙ ap length bytes ∙ bytes_length k a.right r room) bytes

      index : r ≡ pat_room → mine pat_pid ≡ true
      index e =
          let at-pat : (table_of pat_room).pid ≡ q = subst (λ (p : ℕ). p < 5 → (table_of p).pid ≡ q) (sym er ∙ e) (table_pid h.core q) (omega arith) in
          ap mine at-pat ∙ own
