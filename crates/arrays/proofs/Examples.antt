-- Worked examples of the arrays that a host lends: where each number stands, and what the numbers say that no call leaves. Assumes nothing.
use mathlib.Core.Path.{◌≡◌, refl}
use mathlib.Core.Bool.{true, false}
use mathlib.Core.List.{List, [], ◌∷◌, ◌++◌}
use Prim.Native.Nat.{ℕ}
use lib.ListN.{length, replicate}
use Rattle.lists.specs.Places.{part}
use Rattle.watches.specs.declared.Entry.{Entry}
use Rattle.watches.specs.Tables.{no_entry}
use Rattle.calls.specs.declared.State.{State}
use Rattle.arrays.specs.Lent.{time_count, word_count, core_times, core_words, lost_word, count_word, lost_in, run_in, tabled, times_of, words_of, state_in, latest_at, gaps_at, sinces_at, numbers_at, pids_at, halves_at, lost_at, run_at, count_at}

abbrev first : Entry
first = record { number = 31; pid = 41; since = 21 }

abbrev second : Entry
second = record { number = 32; pid = 42; since = 22 }

abbrev last : Entry
last = record { number = 33; pid = 43; since = 23 }

-- each number of it stands once
abbrev state : State
state =
    record {
      latest = 10;
      core =
          record {
            lost = true;
            run = 4;
            since = 11 ∷ 12 ∷ 13 ∷ 14 ∷ 15 ∷ [];
            count = 2;
            entries = first ∷ second ∷ (replicate 13 no_entry ++ (last ∷ []));
            half = 51 ∷ (replicate 19 0 ++ (52 ∷ []));
          };
    }

abbrev times : List ℕ
times = 10 ∷ 11 ∷ 12 ∷ 13 ∷ 14 ∷ 15 ∷ 21 ∷ 22 ∷ (replicate 13 0 ++ (23 ∷ []))

abbrev words : List ℕ
words =
    31 ∷ 32 ∷ (replicate 13 0 ++ (33 ∷ []))
    ++ (41 ∷ 42 ∷ (replicate 13 0 ++ (43 ∷ []))
    ++ (51 ∷ (replicate 19 0 ++ (52 ∷ []))
    ++ (1 ∷ 4 ∷ 2 ∷ [])))

pub record Table : Type 0 where
  pub times_laid : times_of state ≡ times
  pub words_laid : words_of state ≡ words
  pub read_back : state_in times words ≡ state
  pub times_all : length times ≡ time_count
  pub words_all : length words ≡ word_count
  pub time_places : latest_at ∷ gaps_at ∷ sinces_at ∷ [] ≡ 0 ∷ 1 ∷ 6 ∷ []
  pub word_places : numbers_at ∷ pids_at ∷ halves_at ∷ lost_at ∷ run_at ∷ count_at ∷ [] ≡ 0 ∷ 16 ∷ 32 ∷ 53 ∷ 54 ∷ 55 ∷ []
  pub times_22 : time_count ≡ 22
  pub words_56 : word_count ≡ 56
  -- sync is lost where the number is not 0
  pub not_lost : lost_in 0 ≡ false
  pub lost_by_1 : lost_in 1 ≡ true
  pub lost_by_2 : lost_in 2 ≡ true
  pub told_lost : lost_word true ≡ 1
  pub told_not_lost : lost_word false ≡ 0
  -- a run above 255, a list above 65,535
  pub run_255 : run_in 255 ≡ 255
  pub run_256 : run_in 256 ≡ 255
  pub run_254 : run_in 254 ≡ 254
  pub count_65535 : count_word 65535 ≡ 65535
  pub count_65536 : count_word 65536 ≡ 65535
  pub count_65534 : count_word 65534 ≡ 65534

table : Table
unfolding core_times core_words times_of words_of state_in tabled part
table =
    record {
      times_laid = refl;
      words_laid = refl;
      read_back = refl;
      times_all = refl;
      words_all = refl;
      time_places = refl;
      word_places = refl;
      times_22 = refl;
      words_56 = refl;
      not_lost = refl;
      lost_by_1 = refl;
      lost_by_2 = refl;
      told_lost = refl;
      told_not_lost = refl;
      run_255 = refl;
      run_256 = refl;
      run_254 = refl;
      count_65535 = refl;
      count_65536 = refl;
      count_65534 = refl;
    }
