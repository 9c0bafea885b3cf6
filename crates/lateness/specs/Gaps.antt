-- Two judgements of one watched table's lateness: document 01, "Watches and lateness", and demand 3 of the request. Times and limits are
-- ticks; a watch has any list of limits, here and in all that follows.
--
--   keep b x l            == x in front of the list l where the test b holds
-- From the gaps, as the other judgement sees them:
--   gap ls a e            == a gap from a to e gives a stamp for each limit that it is strictly longer than: its start plus the limit
--   gaps ls b as e        == the gaps of a watch that began at b, whose good sections arrived at the times as, up to e
--   Life                  == a watch from its beginning to its end, or to the latest accepted time
--   judged ls fs          == the stamps of some lives, one after the other
-- Live, one call at a time:
--   due ls s p t          == the stamps of a gap begun at s that the call at t hands over, p being the latest accepted time before it:
--                            those that t is the first to exceed, p ≤ stamp < t
--   Watch                 == off, or on with the start of its present gap
--   Act                   == what befalls a watch at a moment: it begins, a good section of its table arrives, it ends
--   due_of ls w p t        == those of a watch w: none where it is off
--   after t w a           == the watch after an act at t
--   acted t w az          == after some acts at t
--   Seen                  == what a watch sees: time goes on to t; an act at the present time
--   live ls p w os        == the stamps handed over, from the time p and the watch w on
-- Between the two:
--   View                  == not watched, or watched since b with arrivals so far
--   lived b as e          == the life of a watch that began at b and ended at e
--   lives p v os          == the lives that are read off what the watch sees, from the view v on
--   view_of w              == the view of a watch: its present gap is all that it knows
--   RisingFrom x ls, Rising ls == each limit is at least the one before, the first at least x; at least 0
--   Ordered p os          == times never fall
--   Fresh p w             == at an opening at p: off, or its first gap begins there
use Rattle.std.specs.Prelude.{◌≡◌, Bool, true, false, ◌&&◌, List, [], ◌∷◌, ◌++◌, ℕ, ◌+◌, ◌-◌, ◌≤◌, ltb, leb}

abbrev pub keep : {A : Type 0} → Bool → A → List A → List A
keep true x l = x ∷ l
keep false x l = l

-- FROM THE GAPS
abbrev pub gap : List ℕ → ℕ → ℕ → List ℕ
gap [] a e = []
gap (l ∷ ls) a e = keep (ltb l (e - a)) (a + l) (gap ls a e)

abbrev pub gaps : List ℕ → ℕ → List ℕ → ℕ → List ℕ
gaps ls b [] e = gap ls b e
gaps ls b (a ∷ ar) e = gap ls b a ++ gaps ls a ar e

pub record Life : Type 0 where
  pub began : ℕ
  pub arrivals : List ℕ
  pub ended : ℕ

abbrev pub judged : List ℕ → List Life → List ℕ
judged ls [] = []
judged ls (f ∷ fs) = gaps ls f.began f.arrivals f.ended ++ judged ls fs

-- LIVE
abbrev pub due : List ℕ → ℕ → ℕ → ℕ → List ℕ
due [] s p t = []
due (l ∷ ls) s p t = keep (leb p (s + l) && ltb (s + l) t) (s + l) (due ls s p t)

pub data Watch : Type 0 where
  off : Watch
  on : ℕ → Watch

abbrev pub due_of : List ℕ → Watch → ℕ → ℕ → List ℕ
due_of ls off p t = []
due_of ls (on s) p t = due ls s p t

pub data Act : Type 0 where
  begins : Act
  arrives : Act
  ends : Act

abbrev pub after : ℕ → Watch → Act → Watch
after t w begins = on t
after t off arrives = off
after t (on s) arrives = on t
after t w ends = off

abbrev pub acted : ℕ → Watch → List Act → Watch
acted t w [] = w
acted t w (a ∷ az) = acted t (after t w a) az

pub data Seen : Type 0 where
  tick : ℕ → Seen
  act : Act → Seen

abbrev pub live : List ℕ → ℕ → Watch → List Seen → List ℕ
live ls p w [] = []
live ls p w (tick t ∷ os) = due_of ls w p t ++ live ls t w os
live ls p w (act a ∷ os) = live ls p (after p w a) os

-- BETWEEN THE TWO
pub data View : Type 0 where
  unwatched : View
  watched : ℕ → List ℕ → View

abbrev pub lived : ℕ → List ℕ → ℕ → Life
lived b ar e = record { began = b; arrivals = ar; ended = e }

abbrev pub lives : ℕ → View → List Seen → List Life
lives p unwatched [] = []
lives p (watched b ar) [] = lived b ar p ∷ []
lives p v (tick t ∷ os) = lives t v os
lives p unwatched (act begins ∷ os) = lives p (watched p []) os
lives p (watched b ar) (act begins ∷ os) = lived b ar p ∷ lives p (watched p []) os
lives p unwatched (act arrives ∷ os) = lives p unwatched os
lives p (watched b ar) (act arrives ∷ os) = lives p (watched b (ar ++ (p ∷ []))) os
lives p unwatched (act ends ∷ os) = lives p unwatched os
lives p (watched b ar) (act ends ∷ os) = lived b ar p ∷ lives p unwatched os

abbrev pub RisingFrom : ℕ → List ℕ → Type 0
RisingFrom m [] = Unit
RisingFrom m (l ∷ ls) = (m ≤ l) × RisingFrom l ls

abbrev pub Rising : List ℕ → Type 0
Rising ls = RisingFrom 0 ls

abbrev pub Ordered : ℕ → List Seen → Type 0
Ordered p [] = Unit
Ordered p (tick t ∷ os) = (p ≤ t) × Ordered t os
Ordered p (act a ∷ os) = Ordered p os

abbrev pub Fresh : ℕ → Watch → Type 0
Fresh p off = Unit
Fresh p (on s) = s ≡ p

abbrev pub view_of : Watch → View
view_of off = unwatched
view_of (on s) = watched s []
