-- From the parts of the record call to what it promises. Assumes nothing.
use Prim.Native.Nat.{ℕ, zero, suc, ◌≤◌, ◌<◌}
use mathlib.Core.Path.{◌≡◌, refl, sym, ap, ◌∙◌}
use mathlib.Core.Bool.{true, false}
use mathlib.Core.List.{List, []}
use native.Mathlib.Omega.{arith}
use lib.ListN.{length, get_or, take, drop}
use lib.Seq.{take-append-le}
use borrow.Author.Tests.{lt-ltb, le-ltb}
use Rattle.laws.specs.Lists.{over}
use Rattle.laws.proofs.Refusal.{first_here, first_skip, first_found, first_next, first_end}
use Rattle.laws.proofs.Any.{any_here, any_skip, any_not, any_none}
use Rattle.job_record.specs.Number.{job_number}
use Rattle.answer_record.specs.Answer.{answer_bytes, refusal_bytes}
use Rattle.answer_record.specs.declared.answer.Answer.{Answer}
use Rattle.limits.specs.Limits.{least_answer}
use Rattle.record_call.specs.Record.{job_fields, whole_choice, bytes_by, answer_of, least_workspace, too_short, call_number, answer_after}
use Rattle.record_call.specs.Promise.{Answers}
use Rattle.record_call.proofs.Bounds.{bound_promise}
use Rattle.record_call.proofs.Promise.{accepted_bytes, n_is, choice_size, fields_read_lem, choice_read_lem, pins_promise, promise}

-- ---- an accepted job

same_bytes : (a : Answer) (b b' : List ℕ) → take a.n b ≡ take a.n b' → answer_bytes a b ≡ answer_bytes a b'
unfolding answer_bytes
same_bytes a b b' e = rw e

module _ (s : List ℕ) (e : job_number s ≡ 0) where
  -- a choice at the front of a slice is written as alone
  pub written_bytes : (a : Answer) (b b₀ : List ℕ) → a ≡ job_fields s → b ≡ over (whole_choice s) b₀ → answer_bytes a b ≡ answer_bytes (job_fields s) (whole_choice s)
  written_bytes a b b₀ p r =
      rw (p, r)
      (same_bytes (job_fields s) (over (whole_choice s) b₀) (whole_choice s) (take-append-le (job_fields s).n (whole_choice s) (drop (length (whole_choice s)) b₀) (omega (arith, n_is s e, choice_size s e))))

-- ---- the call

module _ (job workspace answer : List ℕ) where
  pub short_answer : length answer < least_answer → too_short (length workspace) (length answer) ≡ true
  unfolding too_short
  short_answer h = any_here _ _ (lt-ltb (length answer) least_answer h)

  pub short_workspace : least_answer ≤ length answer → length workspace < least_workspace → too_short (length workspace) (length answer) ≡ true
  unfolding too_short
  short_workspace l h = any_skip _ _ (le-ltb (length answer) least_answer l) ∙ any_here _ _ (lt-ltb (length workspace) least_workspace h)

  pub roomy : least_answer ≤ length answer → least_workspace ≤ length workspace → too_short (length workspace) (length answer) ≡ false
  unfolding too_short
  roomy l h = any_not _ _ (le-ltb (length answer) least_answer l) (any_not _ _ (le-ltb (length workspace) least_workspace h) any_none)

  -- what refuses leaves all else, and promises nothing
  refusing : {number : ℕ} {answer' : List ℕ} → number ≡ call_number job (length workspace) (length answer) → answer' ≡ answer_after job (length workspace) answer → (number ≡ 0 → ⊥)
      → Answers job workspace answer number workspace answer'
  refusing n w some =
      record {
        numbered = n;
        written = w;
        refused = λ _. refl;
        kept = refl;
        read = λ z. absurd (some z);
        pinned = λ z. absurd (some z);
        promised = λ z. absurd (some z);
        bounded = λ z. absurd (some z);
      }

  -- 31
  pub answers_short : too_short (length workspace) (length answer) ≡ true → Answers job workspace answer 31 workspace answer
  unfolding call_number answer_after
  answers_short t = refusing (sym (first_here 30 _ _ t)) (rw t) (λ z. omega (arith, z))

  -- a refusal
  refusal : (n : ℕ) → (n ≡ 0 → ⊥) → bytes_by n job ≡ refusal_bytes n
  refusal zero h = absurd (h refl)
  refusal (suc n) h = refl

  pub answers_refused : (number : ℕ) (answer' : List ℕ) → too_short (length workspace) (length answer) ≡ false → number ≡ job_number job → (number ≡ 0 → ⊥)
      → answer' ≡ over (refusal_bytes number) answer → Answers job workspace answer number workspace answer'
  unfolding call_number answer_after answer_of
  answers_refused number answer' t is some e =
      refusing (sym (first_skip 31 _ _ t ∙ first_found (job_number job) [] (λ z. some (is ∙ z)) ∙ sym is))
      (rw t (e ∙ ap (λ (x : List ℕ). over x answer) (sym (refusal number some) ∙ ap (λ (k : ℕ). bytes_by k job) is))) some

  -- an answer
  number_none : too_short (length workspace) (length answer) ≡ false → job_number job ≡ 0 → call_number job (length workspace) (length answer) ≡ 0
  unfolding call_number answer_of
  number_none t is = first_skip 31 _ _ t ∙ first_next (job_number job) [] is ∙ first_end

  answer_left : (answer' : List ℕ) → too_short (length workspace) (length answer) ≡ false → job_number job ≡ 0
      → answer' ≡ over (answer_bytes (job_fields job) (whole_choice job)) answer → answer' ≡ answer_after job (length workspace) answer
  unfolding answer_after
  answer_left answer' t is e = rw (t, accepted_bytes job is) e

  pub answers_accepted : ((i : ℕ) → get_or job i 0 < 256) → (workspace' answer' : List ℕ) → drop least_workspace workspace' ≡ drop least_workspace workspace
      → too_short (length workspace) (length answer) ≡ false → job_number job ≡ 0
      → answer' ≡ over (answer_bytes (job_fields job) (whole_choice job)) answer → Answers job workspace answer 0 workspace' answer'
  answers_accepted bytes workspace' answer' tail t is e =
      record {
        numbered = sym (number_none t is);
        written = answer_left answer' t is e;
        refused = λ z. absurd (z refl);
        kept = tail;
        read = λ _. (rw e (fields_read_lem job is bytes answer), rw e (choice_read_lem job is bytes answer));
        pinned = λ _ some. rw e (pins_promise job is bytes answer some);
        promised = λ _ none some. rw e (promise job is bytes answer none some);
        bounded = λ _. rw e (bound_promise job is bytes answer);
      }
