-- One outcome: document 01, "How the promises are judged" ("Show that no second outcome could satisfy it"). A promise says of what a function
-- was given (a), what it answers (r) and what its parameters hold at exit (s) whether that is right.
--
--   OneAnswer post answer         == two outcomes that meet the promise answer the same; for a function that is lent nothing to write to
--   OneOutcome post answer memory == they also leave the same in lent memory; answer and memory say what is compared
use Rattle.std.specs.Prelude.{◌≡◌}

abbrev pub OneAnswer : {A R S X : Type 0} → (A → R → S → Type 0) → (R → X) → Type 0
OneAnswer {A} {R} {S} post answer = (a : A) (r r' : R) (s s' : S) → post a r s → post a r' s' → answer r ≡ answer r'

abbrev pub OneOutcome : {A R S X M : Type 0} → (A → R → S → Type 0) → (R → X) → (S → M) → Type 0
OneOutcome {A} {R} {S} post answer memory =
    (a : A) (r r' : R) (s s' : S) → post a r s → post a r' s' → (answer r ≡ answer r') × (memory s ≡ memory s')
