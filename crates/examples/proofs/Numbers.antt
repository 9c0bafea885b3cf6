-- The numbers by which a host lends memory, as document 01 and docs/DECISIONS.md have them: each stands once as a definition, and here as a figure.
-- Assumes nothing.
use mathlib.Core.Path.{◌≡◌, refl}
use Rattle.events.specs.Capacity.{record_width, least_capacity, number_capacity, most_events}
use Rattle.watches.specs.Tables.{fixed_count}
use Rattle.sections.specs.Rooms.{memory_size, room_count, room_base}
use Rattle.programmes.specs.Listing.{most_listed}

pub record Table : Type 0 where
  pub numbers_of_an_event : record_width ≡ 4
  pub records_at_least : least_capacity ≡ 96
  pub numbers_of_scratch : number_capacity ≡ 384
  pub events_at_most : most_events ≡ 87
  pub fixed_tables_lem : fixed_count ≡ 5
  pub programmes_at_most : most_listed ≡ 16
  pub rooms : room_count ≡ 21
  pub bytes_of_section_memory : memory_size ≡ 24_576
  -- the rooms fill it
  pub past_the_last_room : room_base room_count ≡ memory_size

table : Table
table =
    record {
      numbers_of_an_event = refl;
      records_at_least = refl;
      numbers_of_scratch = refl;
      events_at_most = refl;
      fixed_tables_lem = refl;
      programmes_at_most = refl;
      rooms = refl;
      bytes_of_section_memory = refl;
      past_the_last_room = refl;
    }
