-- Two programme lists that are alike: the same pairs in the same order, and the same gap starts where a PID is among the PIDs `mine`. Assumes
-- nothing.
use mathlib.Core.Path.{◌≡◌, refl, sym, ap, ap₂, ◌∙◌, subst}
use mathlib.Core.Bool.{Bool, true, false, cond, ◌&&◌, ◌||◌, and-false, true≢false}
use mathlib.Core.List.{List, [], ◌∷◌, map}
use Prim.Native.Nat.{ℕ, zero, suc, ◌+◌, ◌≤◌}
use native.Mathlib.Omega.{arith}
use lib.Dec.{leb, ltb, eqb}
use lib.ListN.{length, set, take, replicate, length-set, length-replicate}
use borrow.Author.Tests.{ne_eqb, leb-false}
use Rattle.lists.proofs.Tests.{cond_either, or_false_right}
use Rattle.watches.specs.declared.Entry.{Entry}
use Rattle.watches.specs.Tables.{no_entry, latest_time}
use Rattle.programmes.specs.declared.Listed.{Listed}
use Rattle.programmes.specs.Listing.{most_listed, number_of, entry_pid, entries_of, is_number, pid_unusable, is_pair, entry_for, made_bad, listed_with, entered, read_on, none_listed, list_of}
use Rattle.programmes.specs.Places.{place_of, is_listed}
use Rattle.calls.specs.Steps.{touched}

module _ (mine : ℕ → Bool) where
  pub record AlikeEntry (e d : Entry) : Type 0 where
    pub number : e.number ≡ d.number
    pub pid : e.pid ≡ d.pid
    pub since : mine e.pid ≡ true → e.since ≡ d.since

  pub data Alikes : List Entry → List Entry → Type 0 where
    none : Alikes [] []
    next : {e d : Entry} {es ds : List Entry} → AlikeEntry e d → Alikes es ds → Alikes (e ∷ es) (d ∷ ds)

  entry_itself : (e : Entry) → AlikeEntry e e
  entry_itself e = record { number = refl; pid = refl; since = λ h. refl }

  pub alikes_itself : (es : List Entry) → Alikes es es
  alikes_itself [] = none
  alikes_itself (e ∷ es) = next (entry_itself e) (alikes_itself es)

  pub alikes_sym : {es ds : List Entry} → Alikes es ds → Alikes ds es
  alikes_sym none = none
  alikes_sym (next a z) = next (record { number = sym a.number; pid = sym a.pid; since = λ h. sym (a.since (ap mine a.pid ∙ h)) }) (alikes_sym z)

  pub alikes_trans : {es ds cs : List Entry} → Alikes es ds → Alikes ds cs → Alikes es cs
  alikes_trans none none = none
  alikes_trans (next a z) (next b y) =
      next
      (record {
        number = a.number ∙ b.number;
        pid = a.pid ∙ b.pid;
        since = λ h. a.since h ∙ b.since (ap mine (sym a.pid) ∙ h);
      })
      (alikes_trans z y)

  pub alikes_length : {es ds : List Entry} → Alikes es ds → length es ≡ length ds
  alikes_length none = refl
  alikes_length (next a z) = ap suc (alikes_length z)

  pub alikes_place : {es ds : List Entry} → Alikes es ds → (q : ℕ) → place_of q es ≡ place_of q ds
  unfolding place_of
  alikes_place none q = refl
  alikes_place (next a z) q = ap₂ (λ (p n : ℕ). cond (eqb p q) 0 (suc n)) a.pid (alikes_place z q)

  pub alikes_listed : {es ds : List Entry} → Alikes es ds → (q : ℕ) → is_listed q es ≡ is_listed q ds
  alikes_listed z q = ap₂ ltb (alikes_place z q) (alikes_length z)

  alikes_take : (n : ℕ) {es ds : List Entry} → Alikes es ds → Alikes (take n es) (take n ds)
  alikes_take zero z = none
  alikes_take (suc n) none = none
  alikes_take (suc n) (next a z) = next a (alikes_take n z)

  alikes_set : (n : ℕ) {es ds : List Entry} {e d : Entry} → AlikeEntry e d → Alikes es ds → Alikes (set es n e) (set ds n d)
  alikes_set n b none = none
  alikes_set zero b (next a z) = next b z
  alikes_set (suc n) b (next a z) = next a (alikes_set n b z)

  -- A GOOD PMT SECTION: of the same pair in both, or of a PID that is not mine in one
  pub alikes_touched : (n q t : ℕ) {es ds : List Entry} → Alikes es ds → Alikes (map (touched n q t) es) (map (touched n q t) ds)
  alikes_touched n q t none = none
  alikes_touched n q t (next {e} {d} a z) = next (record { number = a.number; pid = a.pid; since = since }) (alikes_touched n q t z)
    where
      pair : is_pair n q e ≡ is_pair n q d
      pair = ap₂ (λ (x y : ℕ). eqb x n && eqb y q) a.number a.pid

      since : mine e.pid ≡ true → (touched n q t e).since ≡ (touched n q t d).since
      since h = ap₂ (λ (b : Bool) (s : ℕ). cond b t s) pair (a.since h)

  pub touched_other : (n q t : ℕ) → mine q ≡ false → (es : List Entry) → Alikes (map (touched n q t) es) es
  touched_other n q t other [] = none
  touched_other n q t other (e ∷ es) = next (record { number = refl; pid = refl; since = since }) (touched_other n q t other es)
    where
      since : mine e.pid ≡ true → (touched n q t e).since ≡ e.since
      since h =
          let apart : eqb e.pid q ≡ false = ne_eqb e.pid q (λ z. true≢false (sym h ∙ ap mine z ∙ other)) in
          ap (λ b. cond (eqb e.number n && b) t e.since) apart ∙ ap (λ b. cond b t e.since) (and-false (eqb e.number n))

  -- A LIST IS READ: the entry of a pair
  alikes_entry : (t n q : ℕ) → {es ds : List Entry} → Alikes es ds → AlikeEntry (entry_for t es n q) (entry_for t ds n q)
  unfolding entry_for
  alikes_entry t n q none = record { number = refl; pid = refl; since = λ own. refl }
  alikes_entry t n q (next {e} {d} {es} {ds} a z) = go (is_pair n q e) (is_pair n q d) pair (alikes_entry t n q z)
    where
      pair : is_pair n q e ≡ is_pair n q d
      pair = ap₂ (λ (x y : ℕ). eqb x n && eqb y q) a.number a.pid

      go : (b c : Bool) → b ≡ c → AlikeEntry (entry_for t es n q) (entry_for t ds n q) → AlikeEntry (cond b e (entry_for t es n q)) (cond c d (entry_for t ds n q))
      go true true h r = a
      go true false h r = absurd (true≢false h)
      go false true h r = absurd (true≢false (sym h))
      go false false h r = r

  pub record AlikeListed (l k : Listed) : Type 0 where
    pub count : l.count ≡ k.count
    pub entries : Alikes l.entries k.entries

  pub alike_by : (l k : Listed) → AlikeListed l k → Alikes (take l.count l.entries) (take k.count k.entries)
  alike_by l k a = subst (λ (n : ℕ). Alikes (take l.count l.entries) (take n k.entries)) a.count (alikes_take l.count a.entries)

  alike_cond : (a b : Bool) (l l₂ k k₂ : Listed) → a ≡ b → AlikeListed l k → AlikeListed l₂ k₂ → AlikeListed (cond a l l₂) (cond b k k₂)
  alike_cond true b l l₂ k k₂ e s z = subst (λ (c : Bool). AlikeListed l (cond c k k₂)) e s
  alike_cond false b l l₂ k k₂ e s z = subst (λ (c : Bool). AlikeListed l₂ (cond c k k₂)) e z

  module _ (t : ℕ) {old old₂ : List Entry} (before : Alikes old old₂) where
    alike_bad : (l k : Listed) → AlikeListed l k → AlikeListed (made_bad l) (made_bad k)
    alike_bad l k a = record { count = a.count; entries = a.entries }

    alike_with : (n q : ℕ) (l k : Listed) → AlikeListed l k → AlikeListed (listed_with (entry_for t old n q) l) (listed_with (entry_for t old₂ n q) k)
    alike_with n q l k a =
        record {
          count = ap (λ c. c + 1) a.count;
          entries =
              subst (λ (c : ℕ). Alikes (set l.entries l.count (entry_for t old n q)) (set k.entries c (entry_for t old₂ n q))) a.count
              (alikes_set l.count (alikes_entry t n q before) a.entries);
        }

    alike_entered : (seen : List ℕ) (n q : ℕ) (l k : Listed) → AlikeListed l k → AlikeListed (entered t old seen n q l) (entered t old₂ seen n q k)
    alike_entered seen n q l k a =
        alike_cond (eqb n 0) (eqb n 0) l _ k _ refl a
        (alike_cond (pid_unusable q || (is_number n seen || leb most_listed l.count)) (pid_unusable q || (is_number n seen || leb most_listed k.count))
        (made_bad l) _ (made_bad k) _ (ap (λ c. pid_unusable q || (is_number n seen || leb most_listed c)) a.count) (alike_bad l k a) (alike_with n q l k a))

    alike_read : (seen : List ℕ) (l k : Listed) (s : List ℕ) → AlikeListed l k → AlikeListed (read_on t old seen l s) (read_on t old₂ seen k s)
    unfolding read_on
    alike_read seen l k [] z = z
    alike_read seen l k (a ∷ []) z = alike_bad l k z
    alike_read seen l k (a ∷ b ∷ []) z = alike_bad l k z
    alike_read seen l k (a ∷ b ∷ c ∷ []) z = alike_bad l k z
    alike_read seen l k (a ∷ b ∷ c ∷ d ∷ s) z =
        alike_read (number_of a b ∷ seen) (entered t old seen (number_of a b) (entry_pid c d) l) (entered t old₂ seen (number_of a b) (entry_pid c d) k) s
        (alike_entered seen (number_of a b) (entry_pid c d) l k z)

    pub alike_list : (s : List ℕ) → AlikeListed (list_of t old s) (list_of t old₂ s)
    unfolding list_of
    alike_list s = alike_read [] none_listed none_listed (entries_of s) (record { count = refl; entries = alikes_itself none_listed.entries })

-- NO GAP START above 2^62
abbrev pub Timely : List Entry → Type 0
Timely [] = Unit
Timely (e ∷ es) = (e.since ≤ latest_time) × Timely es

timely_take : (n : ℕ) (es : List Entry) → Timely es → Timely (take n es)
timely_take zero es h = tt
timely_take (suc n) [] h = tt
timely_take (suc n) (e ∷ es) h = (h.0, timely_take n es h.1)

timely_set : (es : List Entry) (n : ℕ) (e : Entry) → e.since ≤ latest_time → Timely es → Timely (set es n e)
timely_set [] n e l h = tt
timely_set (d ∷ es) zero e l h = (l, h.1)
timely_set (d ∷ es) (suc n) e l h = (h.0, timely_set es n e l h.1)

pub timely_replicate : (n : ℕ) → Timely (replicate n no_entry)
timely_replicate zero = tt
timely_replicate (suc n) = (omega arith, timely_replicate n)

-- A LIST THAT IS READ has sixteen places, no more are listed, and no gap start is late
pub record Filled (l : Listed) : Type 0 where
  pub count : l.count ≤ most_listed
  pub places : length l.entries ≡ most_listed
  pub starts : Timely l.entries

pub filled_starts : (l : Listed) → Filled l → Timely (take l.count l.entries)
filled_starts l f = timely_take l.count l.entries f.starts

module _ (t : ℕ) (early : t ≤ latest_time) where
  pub timely_touched : (n q : ℕ) (es : List Entry) → Timely es → Timely (map (touched n q t) es)
  timely_touched n q [] h = tt
  timely_touched n q (e ∷ es) h = (cond_either (λ (s : ℕ). s ≤ latest_time) (is_pair n q e) t e.since early h.0, timely_touched n q es h.1)

  timely_entry : (n q : ℕ) (es : List Entry) → Timely es → (entry_for t es n q).since ≤ latest_time
  unfolding entry_for
  timely_entry n q [] h = early
  timely_entry n q (e ∷ es) h =
      cond_either (λ (x : Entry). x.since ≤ latest_time) (is_pair n q e) e (entry_for t es n q) h.0 (timely_entry n q es h.1)

  module _ (old : List Entry) (before : Timely old) where
    entered_filled : (seen : List ℕ) (n q : ℕ) (l : Listed) → Filled l → Filled (entered t old seen n q l)
    entered_filled seen n q l f = cond_either Filled (eqb n 0) l _ f (go (pid_unusable q || (is_number n seen || leb most_listed l.count)) refl)
      where
        e : Entry
        e = entry_for t old n q

        go : (b : Bool) → (pid_unusable q || (is_number n seen || leb most_listed l.count)) ≡ b → Filled (cond b (made_bad l) (listed_with e l))
        go true h = record { count = f.count; places = f.places; starts = f.starts }
        go false h =
            let few = leb-false most_listed l.count (or_false_right (is_number n seen) (leb most_listed l.count) (or_false_right (pid_unusable q) _ h)) in
            record {
              count = omega (arith, few);
              places = length-set l.entries l.count e ∙ f.places;
              starts = timely_set l.entries l.count e (timely_entry n q old before) f.starts;
            }

    made_bad_filled : (l : Listed) → Filled l → Filled (made_bad l)
    made_bad_filled l f = record { count = f.count; places = f.places; starts = f.starts }

    read_filled : (seen : List ℕ) (l : Listed) (s : List ℕ) → Filled l → Filled (read_on t old seen l s)
    unfolding read_on
    read_filled seen l [] f = f
    read_filled seen l (a ∷ []) f = made_bad_filled l f
    read_filled seen l (a ∷ b ∷ []) f = made_bad_filled l f
    read_filled seen l (a ∷ b ∷ c ∷ []) f = made_bad_filled l f
    read_filled seen l (a ∷ b ∷ c ∷ d ∷ s) f =
        read_filled (number_of a b ∷ seen) (entered t old seen (number_of a b) (entry_pid c d) l) s (entered_filled seen (number_of a b) (entry_pid c d) l f)

    pub list_filled : (s : List ℕ) → Filled (list_of t old s)
    unfolding list_of
    list_filled s =
        read_filled [] none_listed (entries_of s)
        (record { count = omega arith; places = length-replicate most_listed no_entry; starts = timely_replicate most_listed })
