-- Laws of the one vacant position.
--
--     rack_at_own         rack i + 1 is found where it stands
--     vacancy_below      with one rack fewer than positions the vacancy is one of the positions
--     vacancy-vacant     and vacant
--     vacancy_only       no other is
-- Assumes nothing.
use Prim.Native.Nat.{ℕ, zero, suc, ◌+◌, ◌<◌}
use mathlib.Core.Path.{◌≡◌, refl, sym, ap, ◌∙◌}
use mathlib.Core.Bool.{Bool, not}
use mathlib.Core.Logic.{⊎_elim, by_cases}
use native.Mathlib.Decide.{ℕ_discrete}
use native.Mathlib.Omega.{arith}
use lib.ListN.{length, get_or}
use lib.Dec.{T, T_not}
use Rattle.sets.proofs.FirstLaws.{first_is}
use Rattle.motion.specs.Arrangement.{Arrangement, vacant, rack_at}
use Rattle.motion.specs.Sound.{Sound}
use Rattle.motion.proofs.ArrangementLaws.{occupied_rack, rack_at_finds}
use Rattle.motion.proofs.SoundLaws.{count, vacancies, count-some, sound_vacancies}
use Rattle.motion.proofs.Test.{not_parts, decided, cond-true, cond-false}
use Rattle.tables.proofs.TableLaws.{passed, failed}
use Rattle.parity.specs.Permutation.{vacancy}

pub rack_at_own : (n : ℕ) (A : Arrangement) → Sound n A → (i : ℕ) → i < length A → rack_at A (get_or A i 0) ≡ suc i
rack_at_own n A s i h =
    let w = rack_at_finds A (get_or A i 0) ((occupied_rack A (get_or A i 0)).1 (i, h, refl)) in
    w.3 ∙ ap suc (s.apart w.0 i w.1 h w.2)

module _ (f : ℕ → Bool) where
  -- c is the only number below n that passes the test
  record Only (n c : ℕ) : Type 0 where
    below : c < n
    passes : T (f c)
    only : (p : ℕ) → p < n → T (f p) → p ≡ c

  counted_one : (n : ℕ) → count f n ≡ 1 → (c : ℕ) × Only n c
  unfolding count
  counted_one zero e = absurd (omega arith)
  counted_one (suc n) e =
      ⊎_elim
      (λ (y : T (f n)).
      let z = cond-true (f n) (suc (count f n)) (count f n) y in (
        n,
        record {
          below = omega arith;
          passes = y;
          only = λ p l t. by_cases (ℕ_discrete p n) (λ i. i) (λ d. absurd (omega (arith, count-some f n p (omega arith) t)));
        },
      ))
      (λ (y : T (not (f n))).
      let z = cond-false (f n) (suc (count f n)) (count f n) y in
      let r = counted_one n (omega arith) in
      let low = r.1.below in (
        r.0,
        record {
          below = omega arith;
          passes = r.1.passes;
          only = λ p l t. by_cases (ℕ_discrete p n) (λ i. absurd (T_not (f n) y (rw i at t))) (λ d. r.1.only p (omega arith) t);
        },
      ))
      (decided (f n))

module _ (A : Arrangement) (n : ℕ) (sound : Sound n A) (one : length A + 1 ≡ n) where
  one_count_lem : vacancies n A ≡ 1
  one_count_lem = omega (arith, sound_vacancies n A sound)

  all : (c : ℕ) × Only (vacant A) n c
  all = counted_one (vacant A) n (unfold vacancies in one_count_lem)

  vacancy_is : vacancy n A ≡ all.0
  unfolding vacancy
  vacancy_is =
      let c = all.0 in
      let o = all.1 in
      let low = o.below in
      first_is (vacant A) 0 n c (omega arith) (omega arith) (passed (vacant A c) o.passes)
      (λ p l. failed (vacant A p) ((not_parts (vacant A p)).1 (λ t. let e = o.only p (omega arith) t in omega arith)))

  pub vacancy_below : vacancy n A < n
  vacancy_below = rw vacancy_is all.1.below

  pub vacancy-vacant : T (vacant A (vacancy n A))
  vacancy-vacant = rw vacancy_is all.1.passes

  pub vacancy_only : (p : ℕ) → p < n → T (vacant A p) → p ≡ vacancy n A
  vacancy_only p l t = all.1.only p l t ∙ sym vacancy_is
