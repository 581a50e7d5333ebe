-- Reading and putting, one piece at a time.
use Rattle.std.proofs.Common.{◌≡◌, refl, ap, sym, ◌∙◌, ℕ, ◌<◌, List, [], ◌++◌, length, take, drop, Option, Some, None, IfSome, append_assoc, append-nil, arith, length-append}
use Rattle.std.proofs.lemmas.List.{take-append-drop}
use Rattle.dev_traits.specs.Streams.{Takes, Puts}
use Rattle.dev_traits.specs.declared.streams.Taken.TheVariants as taken
use Rattle.dev_traits.specs.declared.streams.Put.TheVariants as put_
use Rattle.tablet_run.specs.Streams.{ReadFrom, HeldAfter}

pub read-none : (all : Option (List ℕ)) → ReadFrom all all []
read-none None = refl
read-none (Some xs) = (xs, refl, refl)

pub read-step : (all now next : Option (List ℕ)) (into read : List ℕ) (n : ℕ) → ReadFrom all now read → Takes now next into (taken.Bytes n) → ReadFrom all next (read ++ take n into)
read-step None now next into read n r t = rw r at t
read-step (Some xs) now next into read n r t =
    let u = rw r.1 at t in
    (drop n r.0, u.2, rw (u.1, append_assoc, take-append-drop n r.0) r.2)

pub read-end : (all now next : Option (List ℕ)) (into read : List ℕ) → ReadFrom all now read → Takes now next into taken.End → IfSome all (λ xs. read ≡ xs)
read-end None now next into read r t = tt
read-end (Some xs) now next into read r t =
    let u = rw r.1 at t in
    sym (append-nil read) ∙ ap (λ ys. read ++ ys) (sym u.0) ∙ r.2

-- what was read is no longer than all
pub read-within : (all now : Option (List ℕ)) (read : List ℕ) (most : ℕ) → ReadFrom all now read → most < length read → IfSome all (λ xs. most < length xs)
read-within None now read most r h = tt
read-within (Some xs) now read most r h = omega (arith, length-append read r.0, ap length r.2)

pub held-step : (before now next : Option (List ℕ)) (put piece : List ℕ) (n : ℕ) → HeldAfter before now put → Puts now next piece (put_.Took n) → HeldAfter before next (put ++ take n piece)
held-step None now next put piece n h p = rw h at p
held-step (Some xs) now next put piece n h p = (rw h at p) ∙ ap Some (append_assoc xs put (take n piece))

-- a put that fails keeps what is held
pub held-failed : (before now next : Option (List ℕ)) (put piece : List ℕ) → HeldAfter before now put → Puts now next piece put_.Failed → HeldAfter before next put
held-failed None now next put piece h p = rw h at p
held-failed (Some xs) now next put piece h p = rw h at p

pub held-none : (before : Option (List ℕ)) → HeldAfter before before []
held-none None = refl
held-none (Some xs) = ap Some (sym (append-nil xs))
