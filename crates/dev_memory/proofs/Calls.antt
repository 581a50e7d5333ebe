-- The record of calls, read as deeds.
use Rattle.std.proofs.Common.{◌≡◌, ℕ, suc, ◌+◌, ◌≤◌, Bool, List, [], ◌∷◌, ◌++◌, length, take, drop, refl, sym, ◌∙◌, ap, arith, length-drop}
use Rattle.std.proofs.lemmas.List.{take_all, take-append-le, drop-append-le, drop_at, drop-drop}
use Rattle.dev_memory.specs.Disk.{Deed, Wrote, Synced, Blanked, ChangedFiles, deeds, written}
use Rattle.dev_memory.specs.declared.call.Call.{Call}
use Rattle.dev_memory.specs.declared.call.Call.TheVariants.{Write, Sync, Blank, OnFiles}

-- more bytes behind those of the writes change nothing
deeds-more : (calls : List Call) (pieces more : List ℕ) → written calls ≤ length pieces → deeds (pieces ++ more) calls ≡ deeds pieces calls
deeds-more [] pieces more le = refl
deeds-more (Write a at size done ∷ calls) pieces more le =
    let here : size ≤ length pieces = omega arith in
    let rest = deeds-more calls (drop size pieces) more (omega (arith, length-drop size pieces)) in
    (λ i. Wrote a at (take-append-le size pieces more here i) done ∷ (ap (λ (l : List ℕ). deeds l calls) (drop-append-le size pieces more here) ∙ rest) i)
deeds-more (Sync a ∷ calls) pieces more le = ap (λ (l : List Deed). Synced a ∷ l) (deeds-more calls pieces more le)
deeds-more (Blank a done ∷ calls) pieces more le = ap (λ (l : List Deed). Blanked a done ∷ l) (deeds-more calls pieces more le)
deeds-more (OnFiles ∷ calls) pieces more le = ap (λ (l : List Deed). ChangedFiles ∷ l) (deeds-more calls pieces more le)

-- more calls have the bytes behind
pub deeds-append : (calls more : List Call) (pieces : List ℕ) → deeds pieces (calls ++ more) ≡ deeds pieces calls ++ deeds (drop (written calls) pieces) more
deeds-append [] more pieces = refl
deeds-append (Write a at size done ∷ calls) more pieces =
    ap (λ (l : List Deed). Wrote a at (take size pieces) done ∷ l) (deeds-append calls more (drop size pieces)
    ∙ ap (λ (l : List ℕ). deeds (drop size pieces) calls ++ deeds l more) (drop-drop (written calls) size pieces))
deeds-append (Sync a ∷ calls) more pieces = ap (λ (l : List Deed). Synced a ∷ l) (deeds-append calls more pieces)
deeds-append (Blank a done ∷ calls) more pieces = ap (λ (l : List Deed). Blanked a done ∷ l) (deeds-append calls more pieces)
deeds-append (OnFiles ∷ calls) more pieces = ap (λ (l : List Deed). ChangedFiles ∷ l) (deeds-append calls more pieces)

pub deeds-write : (calls : List Call) (pieces piece : List ℕ) (a at size : ℕ) (done : Bool) → written calls ≡ length pieces → size ≡ length piece
    → deeds (pieces ++ piece) (calls ++ Write a at size done ∷ []) ≡ deeds pieces calls ++ Wrote a at piece done ∷ []
deeds-write calls pieces piece a at size done fits is =
    deeds-append calls (Write a at size done ∷ []) (pieces ++ piece)
    ∙ (λ i. deeds-more calls pieces piece (omega arith) i ++ Wrote a at ((ap (λ (l : List ℕ). take size l) (drop_at pieces piece (written calls) (sym fits)) ∙ take_all size piece (omega arith)) i) done ∷ [])

pub deeds-sync : (calls : List Call) (pieces : List ℕ) (a : ℕ) → deeds pieces (calls ++ Sync a ∷ []) ≡ deeds pieces calls ++ Synced a ∷ []
deeds-sync calls pieces a = deeds-append calls (Sync a ∷ []) pieces

pub deeds-blank : (calls : List Call) (pieces : List ℕ) (a : ℕ) (done : Bool) → deeds pieces (calls ++ Blank a done ∷ []) ≡ deeds pieces calls ++ Blanked a done ∷ []
deeds-blank calls pieces a done = deeds-append calls (Blank a done ∷ []) pieces

pub deeds-files : (calls : List Call) (pieces : List ℕ) → deeds pieces (calls ++ OnFiles ∷ []) ≡ deeds pieces calls ++ ChangedFiles ∷ []
deeds-files calls pieces = deeds-append calls (OnFiles ∷ []) pieces

pub length-deeds : (calls : List Call) (pieces : List ℕ) → length (deeds pieces calls) ≡ length calls
length-deeds [] pieces = refl
length-deeds (Write a at size done ∷ calls) pieces = ap suc (length-deeds calls (drop size pieces))
length-deeds (Sync a ∷ calls) pieces = ap suc (length-deeds calls pieces)
length-deeds (Blank a done ∷ calls) pieces = ap suc (length-deeds calls pieces)
length-deeds (OnFiles ∷ calls) pieces = ap suc (length-deeds calls pieces)

pub written-append : (calls more : List Call) → written (calls ++ more) ≡ written calls + written more
written-append [] more = omega arith
written-append (Write a at size done ∷ calls) more = omega (arith, written-append calls more)
written-append (Sync a ∷ calls) more = written-append calls more
written-append (Blank a done ∷ calls) more = written-append calls more
written-append (OnFiles ∷ calls) more = written-append calls more
