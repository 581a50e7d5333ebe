use Rattle.std.proofs.Common.{◌≡◌, ◌+◌, ◌++◌, [], ◌∷◌, ℕ, List, Option, map, vec_len, length, refl, sym, ◌∙◌, ap, subst, arith}
use Rattle.std.proofs.lemmas.List.{append_assoc, map-append, length-map}
use Rattle.segment_write.specs.declared.segments.Made.{Made}
use Rattle.dev_traits.proofs.Moments.{leaves_none, leaves_still}
use Rattle.tablet_state.specs.Readies.{NewSegment, bytes_of}
use Rattle.tablet_state.specs.State.{SegmentView}
use Rattle.tablet_state.specs.Seen.{segment_seen, segments_of}
use Rattle.tablet_state.specs.Adopting.{AllJoined}
use Rattle.tablet_state.proofs.Adoptions.{Adopting, begins, joined_some, joins_more, joins_none, one_more}
use Rattle.tablet_state.proofs.adopting.adopt_all.Goals as goal

pub loop-file-init : goal.loop-file-init
loop-file-init g c =
    let given = c.into_iter-file-iterator.ensures.into_iter_gives in
    let rest = c.into_iter-file-iterator.result.rest.items in
    let many : vec_len c.args.files ≡ length rest = c.args.files.ok.0 ∙ ap length (sym given.0) in
    record {
      split = sym given.0;
      so_far = begins _ _ _ _ (many ∙ sym (length-map rest _) ∙ sym (length-map _ (λ m. m.0))) (leaves_none _) c.requires.free;
      room = omega (arith, c.requires.room, many);
      joined = joins_none c.args.first (segments_of g.S.Reader.SealedReader.view c.args.segments.now.items);
    }

pub returns-in_err-reader-clause-crash : goal.returns-in_err-reader-clause-crash
returns-in_err-reader-clause-crash g c = leaves_still _ _ _ _ c.loop-file.invariant.so_far.crash c.adopt.ensures.crash

pub returns-in_err-reader-clause-joined : goal.returns-in_err-reader-clause-joined
returns-in_err-reader-clause-joined g c =
    joined_some _ _ _ _ _ _ (ap (map _) c.loop-file.invariant.split ∙ map-append _ c.loop-file.yielded c.loop-file.file-iterator.rest.items) c.loop-file.invariant.joined

pub loop-file-preserved : goal.loop-file-preserved
loop-file-preserved g c =
    let steps = c.in-Some.ensures.steps in
    let f = g.S.Maker.FileMaker.sealed_bytes in
    let view = g.S.Reader.SealedReader.view in
    let seen : Made g.row.S-Maker.Denot g.row.S-Maker-Sealed.Denot g.S.Maker.FileMaker → NewSegment = λ m. (f m.sealed, m.footer) in
    let was = c.loop-file.invariant in
    let done = c.loop-file.yielded in
    let rest = c.next.new.self.rest.items in
    let u = g.S.Store.view c.args.store.now in
    let v = g.S.Store.view c.loop-file.store in
    let w = g.S.Store.view c.adopt.new.self in
    let many : length c.loop-file.file-iterator.rest.items ≡ length rest + 1 = ap length steps.0 ∙ omega arith in
    let now = subst (λ (xs : List (Option (List ℕ))). Adopting c.args.first (vec_len c.args.files) u v c.loop-file.number (bytes_of (map seen done)) xs) (ap (λ ms. bytes_of (map seen ms)) steps.0) was.so_far in
    let next = one_more c.args.first (vec_len c.args.files) u v w c.loop-file.number (bytes_of (map seen done)) (bytes_of (map seen rest)) (f c.in-Some.file.sealed) now
    (g.met.S.Store.sealed_tells c.loop-file.store c.in-Some.file.sealed) c.in_ok-reader.ensures.adopted c.in_ok-reader.ensures.durable c.adopt.ensures.spends c.adopt.ensures.crash c.in_ok-reader.ensures.cause.well in
    let one_more_seen : map seen (done ++ c.in-Some.file ∷ []) ≡ map seen done ++ seen c.in-Some.file ∷ [] = map-append seen done (c.in-Some.file ∷ []) in
    let bytes : bytes_of (map seen done) ++ f c.in-Some.file.sealed ∷ [] ≡ bytes_of (map seen (done ++ c.in-Some.file ∷ [])) =
    sym (ap bytes_of one_more_seen ∙ map-append (λ (m : NewSegment). m.0) (map seen done) (seen c.in-Some.file ∷ [])) in
    let place : c.loop-file.number ≡ c.args.first + length (map seen done) = was.so_far.number_is ∙ ap (λ (n : ℕ). c.args.first + n) (length-map (map seen done) (λ (m : NewSegment). m.0)) in
    let segment : SegmentView = record { number = c.loop-file.number; reader = view c.in_ok-reader.reader; footer = c.in-Some.file.footer } in
    let joined = joins_more c.args.first c.loop-file.number (map seen done) (seen c.in-Some.file) (segments_of view c.args.segments.now.items) (segments_of view c.loop-file.segments.items) segment place was.joined
    (record { number_is = refl; bytes = c.in_ok-reader.ensures.bytes; new = c.in_ok-reader.ensures.new; footer = refl }) in
    let segments : segments_of view c.loop-file.segments.items ++ segment ∷ [] ≡ segments_of view c.push_reserved.new.self.items =
    sym (ap (segments_of view) c.push_reserved.ensures.items ∙ map-append (segment_seen view) c.loop-file.segments.items _) in
    record {
      split = was.split ∙ ap (λ xs. done ++ xs) steps.0 ∙ sym (append_assoc done (c.in-Some.file ∷ []) rest);
      so_far = subst (λ (xs : List (Option (List ℕ))). Adopting c.args.first (vec_len c.args.files) u w (c.loop-file.number + 1) xs (bytes_of (map seen rest))) bytes next;
      room = omega (arith, was.room, many, c.push_reserved.ensures.len, c.push_reserved.ensures.capacity);
      joined = subst (λ (ms : List NewSegment). AllJoined c.args.first ms (segments_of view c.args.segments.now.items) (segments_of view c.push_reserved.new.self.items)) (sym one_more_seen)
          (subst (AllJoined c.args.first (map seen done ++ seen c.in-Some.file ∷ []) (segments_of view c.args.segments.now.items)) segments joined);
    }
