-- The two judgements of lateness agree, for any list of rising limits. Assumes nothing.
use mathlib.Core.Path.{◌≡◌, refl, sym, ap}
use mathlib.Core.Bool.{Bool, true, false, ◌&&◌}
use mathlib.Core.List.{List, [], ◌∷◌, ◌++◌, append_assoc, append-nil}
use Prim.Native.Nat.{ℕ, ◌+◌, ◌-◌, ◌≤◌, ◌<◌}
use native.Mathlib.Omega.{arith}
use lib.Dec.{ltb, leb}
use borrow.Author.Tests.{lt-ltb, le-ltb, le-leb, lt-leb}
use Rattle.lists.proofs.Tests.{Order, below, from, order}
use Rattle.lateness.specs.Gaps.{gap, gaps, judged, due, Watch, off, on, begins, arrives, ends, Seen, tick, act, live, View, unwatched, watched, lives, RisingFrom, Rising, Ordered, Fresh, view_of}

-- the test of `due`, by where the stamp x lies
within : (p x t : ℕ) → p ≤ x → x < t → (leb p x && ltb x t) ≡ true
within p x t h k = simp (le-leb p x h, lt-ltb x t k)

earlier : (p x t : ℕ) → x < p → (leb p x && ltb x t) ≡ false
earlier p x t h = simp (lt-leb p x h)

later : (p x t : ℕ) → t ≤ x → (leb p x && ltb x t) ≡ false
later p x t h = go (leb p x)
  where
    go : (b : Bool) → (b && ltb x t) ≡ false
    go true = le-ltb x t h
    go false = refl

-- nothing is due before the first limit
due_none : (ls : List ℕ) (m s p t : ℕ) → RisingFrom m ls → t ≤ s + m → due ls s p t ≡ []
due_none [] m s p t r h = refl
due_none (l ∷ ls) m s p t r h = rw (later p (s + l) t (omega arith)) (due_none ls l s p t r.1 (omega arith))

-- A STRETCH OF TIME is judged in one piece or in two
due_split_one : (l : ℕ) (ls : List ℕ) (s p q t : ℕ) → RisingFrom l ls → p ≤ q → q ≤ t → due ls s p t ≡ due ls s p q ++ due ls s q t
    → Order (s + l) p → Order (s + l) q → Order (s + l) t → due (l ∷ ls) s p t ≡ due (l ∷ ls) s p q ++ due (l ∷ ls) s q t
due_split_one l ls s p q t r pq qt ih (below a) b c =
    rw (earlier p (s + l) t a, earlier p (s + l) q a, earlier q (s + l) t (omega arith)) ih
due_split_one l ls s p q t r pq qt ih (from a) (below b) c =
    rw (within p (s + l) t a (omega arith), within p (s + l) q a b, earlier q (s + l) t b) (ap (λ (z : List ℕ). (s + l) ∷ z) ih)
due_split_one l ls s p q t r pq qt ih (from a) (from b) (below c) =
    rw (within p (s + l) t a c, later p (s + l) q b, within q (s + l) t b c, ih, due_none ls l s p q r b)
due_split_one l ls s p q t r pq qt ih (from a) (from b) (from c) =
    rw (later p (s + l) t c, later p (s + l) q b, later q (s + l) t c) ih

pub due_split : (ls : List ℕ) (m s p q t : ℕ) → RisingFrom m ls → p ≤ q → q ≤ t → due ls s p t ≡ due ls s p q ++ due ls s q t
due_split [] m s p q t r pq qt = refl
due_split (l ∷ ls) m s p q t r pq qt =
    due_split_one l ls s p q t r.1 pq qt (due_split ls l s p q t r.1 pq qt) (order (s + l) p) (order (s + l) q) (order (s + l) t)

-- A GAP is what falls due from its start to its end
gap_due : (ls : List ℕ) (a e : ℕ) → gap ls a e ≡ due ls a a e
gap_due [] a e = refl
gap_due (l ∷ ls) a e = go (order (a + l) e) (gap_due ls a e)
  where
    go : Order (a + l) e → gap ls a e ≡ due ls a a e → gap (l ∷ ls) a e ≡ due (l ∷ ls) a a e
    go (below h) ih = rw (lt-ltb l (e - a) (omega arith), within a (a + l) e (omega arith) h) (ap (λ (z : List ℕ). (a + l) ∷ z) ih)
    go (from h) ih = rw (le-ltb l (e - a) (omega arith), later a (a + l) e h) ih

gap_empty : (ls : List ℕ) (a : ℕ) → gap ls a a ≡ []
gap_empty [] a = refl
gap_empty (l ∷ ls) a = rw (le-ltb l (a - a) (omega arith)) (gap_empty ls a)

gap_longer : (ls : List ℕ) (s p t : ℕ) → Rising ls → s ≤ p → p ≤ t → gap ls s t ≡ gap ls s p ++ due ls s p t
gap_longer ls s p t r sp pt = rw (gap_due ls s t, gap_due ls s p) (due_split ls 0 s s p t r sp pt)

-- THE GAPS OF A LIFE, as time goes on and at an arrival
abbrev latest : ℕ → List ℕ → ℕ
latest b [] = b
latest b (a ∷ ar) = latest a ar

gaps_longer : (ls : List ℕ) (b : ℕ) (ar : List ℕ) (p t : ℕ) → Rising ls → latest b ar ≤ p → p ≤ t
    → gaps ls b ar t ≡ gaps ls b ar p ++ due ls (latest b ar) p t
gaps_longer ls b [] p t r h pt = gap_longer ls b p t r h pt
gaps_longer ls b (a ∷ ar) p t r h pt = rw (gaps_longer ls a ar p t r h pt) (sym (append_assoc (gap ls b a) (gaps ls a ar p) (due ls (latest a ar) p t)))

gaps_arrival : (ls : List ℕ) (b : ℕ) (ar : List ℕ) (p : ℕ) → gaps ls b (ar ++ (p ∷ [])) p ≡ gaps ls b ar p
gaps_arrival ls b [] p = rw (gap_empty ls p) (append-nil (gap ls b p))
gaps_arrival ls b (a ∷ ar) p = ap (λ (z : List ℕ). gap ls b a ++ z) (gaps_arrival ls a ar p)

latest_arrival : (b : ℕ) (ar : List ℕ) (p : ℕ) → latest b (ar ++ (p ∷ [])) ≡ p
latest_arrival b [] p = refl
latest_arrival b (a ∷ ar) p = latest_arrival a ar p

-- THE TWO JUDGEMENTS AGREE, from any moment on
abbrev watch_of : View → Watch
watch_of unwatched = off
watch_of (watched b ar) = on (latest b ar)

abbrev so_far : List ℕ → View → ℕ → List ℕ
so_far ls unwatched p = []
so_far ls (watched b ar) p = gaps ls b ar p

abbrev Begun : View → ℕ → Type 0
Begun unwatched p = Unit
Begun (watched b ar) p = latest b ar ≤ p

agree_from : (ls : List ℕ) → Rising ls → (os : List Seen) (p : ℕ) (v : View) → Begun v p → Ordered p os
    → so_far ls v p ++ live ls p (watch_of v) os ≡ judged ls (lives p v os)
agree_from ls r [] p unwatched h o = refl
agree_from ls r [] p (watched b ar) h o = refl
agree_from ls r (tick t ∷ os) p unwatched h o = agree_from ls r os t unwatched h o.1
agree_from ls r (tick t ∷ os) p (watched b ar) h o =
    rw (← append_assoc (gaps ls b ar p) (due ls (latest b ar) p t) (live ls t (on (latest b ar)) os), ← gaps_longer ls b ar p t r h o.0)
    (agree_from ls r os t (watched b ar) (omega arith) o.1)
agree_from ls r (act begins ∷ os) p unwatched h o = rw (gap_empty ls p) at (agree_from ls r os p (watched p []) (omega arith) o)
agree_from ls r (act begins ∷ os) p (watched b ar) h o =
    ap (λ (z : List ℕ). gaps ls b ar p ++ z) (rw (gap_empty ls p) at (agree_from ls r os p (watched p []) (omega arith) o))
agree_from ls r (act arrives ∷ os) p unwatched h o = agree_from ls r os p unwatched h o
agree_from ls r (act arrives ∷ os) p (watched b ar) h o =
    rw (gaps_arrival ls b ar p, latest_arrival b ar p) at (agree_from ls r os p (watched b (ar ++ (p ∷ []))) (omega (arith, latest_arrival b ar p)) o)
agree_from ls r (act ends ∷ os) p unwatched h o = agree_from ls r os p unwatched h o
agree_from ls r (act ends ∷ os) p (watched b ar) h o = ap (λ (z : List ℕ). gaps ls b ar p ++ z) (agree_from ls r os p unwatched tt o)

-- and from an opening on
pub agree : (ls : List ℕ) → Rising ls → (os : List Seen) (p : ℕ) (w : Watch) → Fresh p w → Ordered p os → live ls p w os ≡ judged ls (lives p (view_of w) os)
agree ls r os p off f o = agree_from ls r os p unwatched tt o
agree ls r os p (on s) f o = rw f (rw (gap_empty ls p) at (agree_from ls r os p (watched p []) (omega arith) o))
