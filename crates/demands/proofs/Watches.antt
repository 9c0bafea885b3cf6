-- One watch of the engine's core, and how it moves by what is heard: one law over the place in the list. Assumes nothing.
use mathlib.Core.Path.{◌≡◌, refl, sym, ap, ◌∙◌, ap₂}
use mathlib.Core.Bool.{Bool, true, false, cond, ◌&&◌}
use mathlib.Core.List.{List, [], ◌∷◌, ◌++◌, map, append_assoc}
use Prim.Native.Nat.{ℕ, ◌<◌}
use lib.Dec.{eqb}
use lib.ListN.{length, get_or, set}
use lib.Seq.{get_or-set_same, get_or-set_other}
use borrow.Author.Tests.{eqb-true, eqb-false, eq-eqb}
use Rattle.lists.proofs.Tests.{and_left, and_right}
use Rattle.lateness.specs.Gaps.{Watch, off, on, Act, arrives, after, acted}
use Rattle.watches.specs.declared.Entry.{Entry}
use Rattle.programmes.specs.Listing.{is_pair, entry_for, list_of}
use Rattle.programmes.proofs.Entries.{entry_number, entry_pid_lem}
use Rattle.calls.specs.declared.Core.{Core}
use Rattle.calls.specs.Cores.{listed}
use Rattle.calls.specs.Steps.{touched, listed_by}
use Rattle.demands.specs.Listening.{Heard, page, paired, pair_of, pairs_in, page_heard}
use Rattle.demands.specs.Judgements.{Watched, fixed, programme, changed, acts_of, acts_of_all}
use Rattle.demands.specs.Pages.{found}
use Rattle.demands.proofs.Lists.{renewed, list_of_renewed}

-- THE WATCH
abbrev pub watch_by : Watched → List ℕ → List Entry → Watch
watch_by (fixed k) ss es = on (get_or ss k 0)
watch_by (programme n q) ss es = found n q es

abbrev pub watch_in : Watched → Core → Watch
watch_in w c = watch_by w c.since (listed c)

abbrev pub is_on : Watch → Bool
is_on off = false
is_on (on s) = true

pub paired_found : (n q : ℕ) (es : List Entry) → paired n q (map pair_of es) ≡ is_on (found n q es)
unfolding paired found
paired_found n q [] = refl
paired_found n q (e ∷ es) = go (is_pair n q e) (paired_found n q es)
  where
    go : (b : Bool) → paired n q (map pair_of es) ≡ is_on (found n q es)
        → cond b true (paired n q (map pair_of es)) ≡ is_on (cond b (on e.since) (found n q es))
    go true h = refl
    go false h = h

pub same_number : (n q : ℕ) (e : Entry) → is_pair n q e ≡ true → e.number ≡ n
same_number n q e h = eqb-true e.number n (and_left (eqb e.number n) (eqb e.pid q) h)

pub same_pid : (n q : ℕ) (e : Entry) → is_pair n q e ≡ true → e.pid ≡ q
same_pid n q e h = eqb-true e.pid q (and_right (eqb e.number n) (eqb e.pid q) h)

-- ARRIVALS of a fixed table
pub get_or_arrived : (k j t : ℕ) (ss : List ℕ) → k < length ss → on (get_or (set ss j t) k 0) ≡ acted t (on (get_or ss k 0)) (cond (eqb k j) (arrives ∷ []) [])
get_or_arrived k j t ss h = go (eqb k j) refl
  where
    go : (b : Bool) → eqb k j ≡ b → on (get_or (set ss j t) k 0) ≡ acted t (on (get_or ss k 0)) (cond b (arrives ∷ []) [])
    go true e = ap on (rw (sym (eqb-true k j e)) (get_or-set_same ss k t 0 h))
    go false e = ap on (get_or-set_other ss j k t 0 (eqb-false k j e))

-- ARRIVALS of a PMT section
found_touched : (n q m r t : ℕ) (es : List Entry)
    → found n q (map (touched m r t) es) ≡ cond (eqb n m && eqb q r) (after t (found n q es) arrives) (found n q es)
unfolding found
found_touched n q m r t [] = go (eqb n m && eqb q r)
  where
    go : (b : Bool) → off ≡ cond b off off
    go true = refl
    go false = refl
found_touched n q m r t (e ∷ es) = go (is_pair n q e) refl (found_touched n q m r t es)
  where
    own : (b : Bool) → on (cond b t e.since) ≡ cond b (on t) (on e.since)
    own true = refl
    own false = refl

    go : (b : Bool) → is_pair n q e ≡ b → found n q (map (touched m r t) es) ≡ cond (eqb n m && eqb q r) (after t (found n q es) arrives) (found n q es)
        → cond b (on (cond (is_pair m r e) t e.since)) (found n q (map (touched m r t) es))
        ≡ cond (eqb n m && eqb q r) (after t (cond b (on e.since) (found n q es)) arrives) (cond b (on e.since) (found n q es))
    go true h ih = rw (same_number n q e h, same_pid n q e h) (own (eqb n m && eqb q r))
    go false h ih = ih

pub found_page : (n q m r t : ℕ) (es : List Entry)
    → found n q (map (touched m r t) es) ≡ acted t (found n q es) (acts_of_all (programme n q) (page_heard m r (map pair_of es)))
found_page n q m r t es = found_touched n q m r t es ∙ go (eqb n m && eqb q r) refl
  where
    own : (w : Watch) → after t w arrives ≡ acted t w (acts_of_all (programme n q) (cond (is_on w) (page n q ∷ []) []))
    own off = refl
    own (on s) = simp (eq-eqb n n refl, eq-eqb q q refl)

    other : (b : Bool) → eqb n m && eqb q r ≡ false → found n q es ≡ acted t (found n q es) (acts_of_all (programme n q) (cond b (page m r ∷ []) []))
    other true e = ap (λ b. acted t (found n q es) (cond b (arrives ∷ []) [] ++ [])) (sym e)
    other false e = refl

    go : (b : Bool) → eqb n m && eqb q r ≡ b
        → cond b (after t (found n q es) arrives) (found n q es) ≡ acted t (found n q es) (acts_of_all (programme n q) (page_heard m r (map pair_of es)))
    go true e =
        let en : n ≡ m = eqb-true n m (and_left (eqb n m) (eqb q r) e) in
        let eq : q ≡ r = eqb-true q r (and_right (eqb n m) (eqb q r) e) in
        rw (← en, ← eq, paired_found n q es) (own (found n q es))
    go false e = other (paired m r (map pair_of es)) e

-- A LIST that is read
abbrev kept_since : ℕ → Watch → ℕ
kept_since t off = t
kept_since t (on s) = s

entry_found : (t : ℕ) (old : List Entry) (n q : ℕ) → (entry_for t old n q).since ≡ kept_since t (found n q old)
unfolding entry_for found
entry_found t [] n q = refl
entry_found t (e ∷ es) n q = go (is_pair n q e) (entry_found t es n q)
  where
    go : (b : Bool) → (entry_for t es n q).since ≡ kept_since t (found n q es)
        → (cond b e (entry_for t es n q)).since ≡ kept_since t (cond b (on e.since) (found n q es))
    go true h = refl
    go false h = h

found_renewed : (n q t : ℕ) (old es : List Entry)
    → found n q (map (renewed t old) es) ≡ cond (paired n q (map pair_of es)) (on (entry_for t old n q).since) off
unfolding found paired
found_renewed n q t old [] = refl
found_renewed n q t old (e ∷ es) =
    ap₂ (λ (x y : ℕ). cond (eqb x n && eqb y q) (on (renewed t old e).since) (found n q (map (renewed t old) es)))
    (entry_number t old e.number e.pid) (entry_pid_lem t old e.number e.pid)
    ∙ go (is_pair n q e) refl (found_renewed n q t old es)
  where
    go : (b : Bool) → is_pair n q e ≡ b → found n q (map (renewed t old) es) ≡ cond (paired n q (map pair_of es)) (on (entry_for t old n q).since) off
        → cond b (on (entry_for t old e.number e.pid).since) (found n q (map (renewed t old) es))
        ≡ cond (cond b true (paired n q (map pair_of es))) (on (entry_for t old n q).since) off
    go true h ih = rw (same_number n q e h, same_pid n q e h)
    go false h ih = ih

pub found_index : (n q t : ℕ) (old : List Entry) (s : List ℕ)
    → found n q (listed_by (list_of t old s)) ≡ acted t (found n q old) (changed (paired n q (map pair_of old)) (paired n q (pairs_in s)))
found_index n q t old s =
    ap (found n q) (list_of_renewed t old s)
    ∙ found_renewed n q t old (listed_by (list_of 0 [] s))
    ∙ rw (entry_found t old n q, paired_found n q old) (go (found n q old) (paired n q (pairs_in s)))
  where
    go : (w : Watch) (here : Bool) → cond here (on (kept_since t w)) off ≡ acted t w (changed (is_on w) here)
    go off true = refl
    go off false = refl
    go (on x) true = refl
    go (on x) false = refl

-- ONE AFTER THE OTHER
pub acted_append : (t : ℕ) (xs ys : List Act) (w : Watch) → acted t w (xs ++ ys) ≡ acted t (acted t w xs) ys
acted_append t [] ys w = refl
acted_append t (a ∷ xs) ys w = acted_append t xs ys (after t w a)

pub acts_of_all_append : (w : Watched) (hs gs : List Heard) → acts_of_all w (hs ++ gs) ≡ acts_of_all w hs ++ acts_of_all w gs
acts_of_all_append w [] gs = refl
acts_of_all_append w (h ∷ hs) gs =
    ap (λ z. acts_of w h ++ z) (acts_of_all_append w hs gs) ∙ sym (append_assoc (acts_of w h) (acts_of_all w hs) (acts_of_all w gs))
