-- Step 1 of document 01, "Judging one packet": sync. right says whether the packet's first byte is 0x47.
--
--   Synced           == the core after step 1, the faults that it gives, and whether the packet is judged further
--   lost_now c        == sync is lost and all half-built sections are dropped
--   in_sync           == in sync: a wrong byte gives 0x000D; the second such packet running also gives 0x000C, sync is lost and all half-built
--                       sections are dropped
--   while_lost        == while lost: no events; the fifth right byte running restores sync and that packet is judged in full
--   synced_of right c == step 1 whole
use Rattle.std.specs.Prelude.{ℕ, ◌+◌, Bool, true, false, cond, List, [], ◌∷◌, eqb, replicate}
use Rattle.events.specs.Faults.{sync_loss, sync_byte_error}
use Rattle.sections.specs.Rooms.{room_count}
use Rattle.calls.specs.declared.Core.{Core}
use Rattle.calls.specs.Cores.{with_sync, with_half}

pub record Synced : Type 0 where
  pub core : Core
  pub faults : List ℕ
  pub further : Bool

abbrev pub lost_now : Core → Core
lost_now c = with_half (replicate room_count 0) (with_sync true 0 c)

abbrev pub in_sync : Bool → Core → Synced
in_sync true c = record { core = with_sync false 0 c; faults = []; further = true }
in_sync false c =
    cond (eqb c.run 1)
    (record { core = lost_now c; faults = sync_byte_error ∷ sync_loss ∷ []; further = false })
    (record { core = with_sync false 1 c; faults = sync_byte_error ∷ []; further = false })

abbrev pub while_lost : Bool → Core → Synced
while_lost true c =
    cond (eqb c.run 4)
    (record { core = with_sync false 0 c; faults = []; further = true })
    (record { core = with_sync true (c.run + 1) c; faults = []; further = false })
while_lost false c = record { core = with_sync true 0 c; faults = []; further = false }

abbrev pub synced_of : Bool → Core → Synced
synced_of right c = cond c.lost (while_lost right c) (in_sync right c)
