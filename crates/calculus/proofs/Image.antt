-- The rewritten run's configuration as an image of the plain one's: booking a step's call leads from image to image. Assumes nothing.
use mathlib.Core.Bool.{Bool, true, false, cond}
use mathlib.Core.List.Memᴰ
use mathlib.Core.List.{List, [], ◌∷◌, ◌++◌, append-nil, Memᴰ}
use mathlib.Core.Logic.{◌⊎◌, inl, inr}
use mathlib.Core.Path.{◌≡◌, refl, ap, ◌∙◌}
use native.Mathlib.Omega.{arith}
use Prim.Native.Nat.{ℕ, suc, ◌<◌}
use lib.Dec.{T}
use Rattle.calculus.specs.Lists.{keep, each}
use Rattle.calculus.specs.Term.{Term}
use Rattle.calculus.specs.Step.{Event}
use Rattle.calculus.specs.Step.Event.{quiet, calls}
use Rattle.calculus.specs.Guideline.{Guideline, Safe}
use Rattle.calculus.specs.Entailment.{Entry, entry, entails?}
use Rattle.calculus.specs.Rewriting.{logged, noted}
use Rattle.calculus.specs.Run.{Conf, calls_of}
use Rattle.calculus.specs.Log as L
use Rattle.calculus.specs.Claim.{entries, is_noted, Above, Rising}
use Rattle.calculus.proofs.Lists.{T_false, false-T, keep_append, keep-cong, keep-into, keep-from}
use Rattle.calculus.proofs.Entailment.{entails-same, entails-logged}
use Rattle.calculus.proofs.Peel.{book}

-- After the calls K, at time t: history and log are those calls that are noted and those that are entailed.
abbrev pub image_state : Guideline → List Entry → ℕ → L.State
image_state G K t = record { history = keep (is_noted G) K; time = t; log = keep (entails? G K) K }

-- The rewritten run's configuration beside the plain run's.
abbrev pub image : Guideline → Conf → L.Conf
image G κ = L.at κ.expr (image_state G (entries κ.made) κ.time)

-- ---- the calls' times

-- All times are below t.
abbrev pub Below : ℕ → List Entry → Type 0
Below t K = (x : Entry) → Memᴰ x K → x.time < t

-- A call at time t, after calls below t: times are below t + 1, and rise.
pub below_more : (t : ℕ) (K : List Entry) (x : Entry) → Below t K → x.time ≡ t → Below (suc t) (K ++ (x ∷ []))
below_more t K x b e y m = on (Memᴰ.append_cases K m)
  where
    on : Memᴰ y K ⊎ Memᴰ y (x ∷ []) → y.time < suc t
    on (inl k) = let l = b y k in omega arith
    on (inr k) = let q = ap (λ (z : Entry). z.time) (Memᴰ.eq_of_singleton k) in omega arith

above_more : (t : ℕ) (K : List Entry) (x : Entry) → Above t K → t < x.time → Above t (K ++ (x ∷ []))
above_more t [] x h l = (l, tt)
above_more t (y ∷ ys) x h l = (h.0, above_more t ys x h.1 l)

pub rising-more : (K : List Entry) (x : Entry) → Rising K → Below x.time K → Rising (K ++ (x ∷ []))
rising-more [] x r b = (tt, tt)
rising-more (y ∷ ys) x r b = (above_more y.time ys x r.0 (b y (Memᴰ.head refl)), rising-more ys x r.1 (λ z m. b z (Memᴰ.tail m)))

-- A selection of calls after t is after t.
above-keep : (p : Entry → Bool) (t : ℕ) (K : List Entry) → Above t K → Above t (keep p K)
unfolding keep
above-keep p t [] h = tt
above-keep p t (x ∷ xs) h = on (p x) (above-keep p t xs h.1)
  where
    on : (b : Bool) → Above t (keep p xs) → Above t (cond b (x ∷ keep p xs) (keep p xs))
    on true k = (h.0, k)
    on false k = k

-- A selection of calls by rising time is by rising time.
pub rising-keep : (p : Entry → Bool) (K : List Entry) → Rising K → Rising (keep p K)
unfolding keep
rising-keep p [] h = tt
rising-keep p (x ∷ xs) h = on (p x) (rising-keep p xs h.1)
  where
    on : (b : Bool) → Rising (keep p xs) → Rising (cond b (x ∷ keep p xs) (keep p xs))
    on true k = (above-keep p x.time xs h.0, k)
    on false k = k

-- ---- one more call

-- A selection gains a last call that passes the test …
pub keep-with : (p : Entry → Bool) (K : List Entry) (x : Entry) → p x ≡ true → keep p (K ++ (x ∷ [])) ≡ keep p K ++ (x ∷ [])
unfolding keep
keep-with p K x e = rw (keep_append p K (x ∷ []), e)

-- … and no other.
pub keep-without : (p : Entry → Bool) (K : List Entry) (x : Entry) → p x ≡ false → keep p (K ++ (x ∷ [])) ≡ keep p K
unfolding keep
keep-without p K x e = rw (keep_append p K (x ∷ []), e) (append-nil (keep p K))

module _ (G : Guideline) (safe : Safe G) (K : List Entry) (x : Entry) (b : Below x.time K) where
  -- What an earlier call entails does not depend on the new one …
  log-old : keep (entails? G (K ++ (x ∷ []))) K ≡ keep (entails? G K) K
  log-old = keep-cong (entails? G (K ++ (x ∷ []))) (entails? G K) K old
    where
      earlier : (y z : Entry) → Memᴰ y K → z.time < y.time → Memᴰ z K ⊎ Memᴰ z (x ∷ []) → Memᴰ z K
      earlier y z m l (inl k) = k
      earlier y z m l (inr k) = let l' = b y m in let q = ap (λ (w : Entry). w.time) (Memᴰ.eq_of_singleton k) in absurd (omega arith)

      old : (y : Entry) → Memᴰ y K → entails? G (K ++ (x ∷ [])) y ≡ entails? G K y
      old y m = entails-same G safe (K ++ (x ∷ [])) K y (λ z k l _. earlier y z m l (Memᴰ.append_cases K k)) (λ z k _ _. Memᴰ.append_left (x ∷ []) k)

  -- … so the log gains the new call where it is entailed, and nothing else.
  log-with : entails? G (K ++ (x ∷ [])) x ≡ true → keep (entails? G (K ++ (x ∷ []))) (K ++ (x ∷ [])) ≡ keep (entails? G K) K ++ (x ∷ [])
  log-with e = keep-with (entails? G (K ++ (x ∷ []))) K x e ∙ ap (λ (l : List Entry). l ++ (x ∷ [])) log-old

  log-without : entails? G (K ++ (x ∷ [])) x ≡ false → keep (entails? G (K ++ (x ∷ []))) (K ++ (x ∷ [])) ≡ keep (entails? G K) K
  log-without e = keep-without (entails? G (K ++ (x ∷ []))) K x e ∙ log-old

  -- The history, which has the noted calls, is as good as all calls.
  from-history : entails? G (keep (is_noted G) K ++ (x ∷ [])) x ≡ entails? G (K ++ (x ∷ [])) x
  from-history =
      entails-same G safe (keep (is_noted G) K ++ (x ∷ [])) (K ++ (x ∷ [])) x
      (λ y k l _. less y l (Memᴰ.append_cases (keep (is_noted G) K) k))
      (λ y k l n. more y l n (Memᴰ.append_cases K k))
    where
      less : (y : Entry) → y.time < x.time → Memᴰ y (keep (is_noted G) K) ⊎ Memᴰ y (x ∷ []) → Memᴰ y (K ++ (x ∷ []))
      less y l (inl k) = Memᴰ.append_left (x ∷ []) (keep-from (is_noted G) K k).0
      less y l (inr k) = Memᴰ.append_right K k

      more : (y : Entry) → y.time < x.time → T (noted G y.function) → Memᴰ y K ⊎ Memᴰ y (x ∷ []) → Memᴰ y (keep (is_noted G) K ++ (x ∷ []))
      more y l n (inl k) = Memᴰ.append_left (x ∷ []) (keep-into (is_noted G) k n)
      more y l n (inr k) = Memᴰ.append_right (keep (is_noted G) K) k

  -- A call of a function that is not logged is not entailed.
  not-logged : logged G x.function ≡ false → entails? G (K ++ (x ∷ [])) x ≡ false
  not-logged e = T_false (entails? G (K ++ (x ∷ [])) x) (λ h. false-T (logged G x.function) e (entails-logged G safe (K ++ (x ∷ [])) x h))

-- A logged function is noted.
pub logged-noted : (G : Guideline) (f : ℕ) → logged G f ≡ true → noted G f ≡ true
unfolding noted
logged-noted G f e = rw e

-- The commands of the step's call, done one step later, lead from the image of the calls before to the image of all.
pub book-call : (G : Guideline) → Safe G → (K : List Entry) (t f : ℕ) (v : Term) → Below t K → book G (calls f v) (L.tick (image_state G K t)) ≡ image_state G (K ++ (entry (record { time = t; function = f; argument = v }) ∷ [])) (suc t)
unfolding L.emit_call
book-call G safe K t f v b = on (logged G f) (noted G f) (entails? G (K ++ (x ∷ [])) x) refl refl refl
  where
    x : Entry
    x = entry (record { time = t; function = f; argument = v })

    on : (p q r : Bool) → logged G f ≡ p → noted G f ≡ q → entails? G (K ++ (x ∷ [])) x ≡ r → book G (calls f v) (L.tick (image_state G K t)) ≡ image_state G (K ++ (x ∷ [])) (suc t)
    on true q true k k' k'' = rw (k, from-history G safe K x b ∙ k'', keep-with (is_noted G) K x (logged-noted G f k), log-with G safe K x b k'')
    on true q false k k' k'' = rw (k, from-history G safe K x b ∙ k'', keep-with (is_noted G) K x (logged-noted G f k), log-without G safe K x b k'')
    on false true r k k' k'' = rw (k, k', keep-with (is_noted G) K x k', log-without G safe K x b (not-logged G safe K x b k))
    on false false r k k' k'' = rw (k, k', keep-without (is_noted G) K x k', log-without G safe K x b (not-logged G safe K x b k))

-- The same with the step's event.
pub book-event : (G : Guideline) → Safe G → (K : List Entry) (t : ℕ) (ev : Event) → Below t K → book G ev (L.tick (image_state G K t)) ≡ image_state G (K ++ entries (calls_of t ev)) (suc t)
unfolding each
book-event G safe K t quiet b = rw (append-nil K)
book-event G safe K t (calls f v) b = book-call G safe K t f v b
