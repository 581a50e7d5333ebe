use Rattle.std.proofs.Common.{◌≡◌, ◌∙◌, ◌+◌, ◌^◌, ◌<◌, ◌≤◌, ◌++◌, [], ap, sym, subst, ℕ, List, None, map, take, length, false, arith}
use Rattle.std.specs.List.{AllByRecursion}
use Rattle.std.proofs.lemmas.List.{length-append, length-map}
use Rattle.index_level0.specs.declared.place.Place.{Place}
use Rattle.pk_values.specs.Schemas.{Layout, schema_fault}
use Rattle.rowsets.specs.Steps.{HaveSame}
use Rattle.segment_write.specs.declared.segments.Made.{Made}
use Rattle.tablet_state.specs.declared.changes.Change.{Change}
use Rattle.tablet_state.specs.Contents.{Contents, index_of}
use Rattle.tablet_state.specs.Readies.{IsChangeOf, IsMadeOf, NewSegment}
use Rattle.core_publish.specs.Publication.{entry_from}
use Rattle.core_publish.specs.Publishing.{StandsTwice, stored_places}
use Rattle.core_publish.proofs.TurnFacts.{goes_on}
use Rattle.core_partial.specs.Moving.{IsAgain, moved_keys}
use Rattle.core_partial.specs.Prepared.{AgainView, IsPreparedPartial, PreparedPartialView, made_move}
use Rattle.core_partial.specs.Publishing.{IsBelow, IsTakenOf, dead_places, place_from}
use Rattle.core_partial.proofs.TakenFacts.{again_few, all_known, change_taken, keys_few, never_twice, stale_few, take_first, wrong_row}
use Rattle.core_partial.proofs.ready.ready_of.Goals as goal

pub dead_of-requires-clause-few : goal.dead_of-requires-clause-few
dead_of-requires-clause-few g c =
    let see : Made g.row.S-Maker.Denot g.row.S-Maker-Sealed.Denot g.S.Maker.FileMaker → NewSegment = λ m. (g.S.Maker.FileMaker.sealed_bytes m.sealed, m.footer) in
    let st = c.args.state.now in
    let held : Contents = st.contents in
    let p : PreparedPartialView = c.args.prepared.now in
    let again : AgainView = c.args.again in
    let is : IsPreparedPartial p = c.keys.ensures.prepared c.requires.unspent in
    let is_again : IsAgain p.schema (moved_keys held p.version p.keys) again = c.requires.again.is in
    let count : length p.files ≤ 2 ^ 31 = omega (arith, c.count-count.ensures.count, c.if-count-ge-MOST_FILES.false) in
    let more_files : map see c.into_parts-moves.result.2.items ≡ again.files = c.into_parts-moves.ensures.files in
    let many : length again.files ≤ 2 ^ 31 =
    omega (arith, c.into_parts-moves.result.2.ok.0, length-map c.into_parts-moves.result.2.items see, ap length more_files, c.len.ensures, c.if-len-ge-MOST_FILES.false) in
    let stale_is : c.deref.result.now ≡ again.stale = c.deref.ensures.value ∙ c.into_parts-moves.ensures.stale in
    let keys_is : c.keys.result.0.now ≡ p.keys = c.keys.ensures.keys in
    let first_is : c.next_file-first.result ≡ held.next_file = c.next_file-first.ensures in
    subst (AllByRecursion (λ (q : Place). q.segment < 2 ^ 31)) (sym stale_is) (stale_few held p again (2 ^ 31) is is_again count)

pub returns-in-Err-Index-clause-intact : goal.returns-in-Err-Index-clause-intact
returns-in-Err-Index-clause-intact g c b h over =
    let see : Made g.row.S-Maker.Denot g.row.S-Maker-Sealed.Denot g.S.Maker.FileMaker → NewSegment = λ m. (g.S.Maker.FileMaker.sealed_bytes m.sealed, m.footer) in
    let st = c.args.state.now in
    let held : Contents = st.contents in
    let p : PreparedPartialView = c.args.prepared.now in
    let again : AgainView = c.args.again in
    let is : IsPreparedPartial p = c.keys.ensures.prepared c.requires.unspent in
    let is_again : IsAgain p.schema (moved_keys held p.version p.keys) again = c.requires.again.is in
    let count : length p.files ≤ 2 ^ 31 = omega (arith, c.count-count.ensures.count, c.if-count-ge-MOST_FILES.false) in
    let more_files : map see c.into_parts-moves.result.2.items ≡ again.files = c.into_parts-moves.ensures.files in
    let many : length again.files ≤ 2 ^ 31 =
    omega (arith, c.into_parts-moves.result.2.ok.0, length-map c.into_parts-moves.result.2.items see, ap length more_files, c.len.ensures, c.if-len-ge-MOST_FILES.false) in
    let stale_is : c.deref.result.now ≡ again.stale = c.deref.ensures.value ∙ c.into_parts-moves.ensures.stale in
    let keys_is : c.keys.result.0.now ≡ p.keys = c.keys.ensures.keys in
    let first_is : c.next_file-first.result ≡ held.next_file = c.next_file-first.ensures in
    let open_ : st.closed ≡ None = (goes_on st c.requires.goes).0 in
    absurd (never_twice g.S.Store.view st b h open_ p again c.requires.schema is is_again over
    (subst StandsTwice (λ i. stored_places held.codes (map made_move (keys_is i)) ++ map (place_from (first_is i)) (stale_is i)) (c.in-Err-Index.ensures.twice c.in-Err-Index.field-0-is)))

pub moves_of-requires-clause-few : goal.moves_of-requires-clause-few
moves_of-requires-clause-few g c =
    let see : Made g.row.S-Maker.Denot g.row.S-Maker-Sealed.Denot g.S.Maker.FileMaker → NewSegment = λ m. (g.S.Maker.FileMaker.sealed_bytes m.sealed, m.footer) in
    let st = c.args.state.now in
    let held : Contents = st.contents in
    let p : PreparedPartialView = c.args.prepared.now in
    let again : AgainView = c.args.again in
    let is : IsPreparedPartial p = c.keys.ensures.prepared c.requires.unspent in
    let is_again : IsAgain p.schema (moved_keys held p.version p.keys) again = c.requires.again.is in
    let count : length p.files ≤ 2 ^ 31 = omega (arith, c.count-count.ensures.count, c.if-count-ge-MOST_FILES.false) in
    let more_files : map see c.into_parts-moves.result.2.items ≡ again.files = c.into_parts-moves.ensures.files in
    let many : length again.files ≤ 2 ^ 31 =
    omega (arith, c.into_parts-moves.result.2.ok.0, length-map c.into_parts-moves.result.2.items see, ap length more_files, c.len.ensures, c.if-len-ge-MOST_FILES.false) in
    let stale_is : c.deref.result.now ≡ again.stale = c.deref.ensures.value ∙ c.into_parts-moves.ensures.stale in
    let keys_is : c.keys.result.0.now ≡ p.keys = c.keys.ensures.keys in
    let first_is : c.next_file-first.result ≡ held.next_file = c.next_file-first.ensures in
    let keys2_is : c.keys-2.result.0.now ≡ p.keys = c.keys-2.ensures.keys in
    let moves_is : c.deref-2.result.now ≡ again.moves = c.deref-2.ensures.value ∙ c.into_parts-moves.ensures.moves in
    subst (AllByRecursion (λ k. IsBelow (2 ^ 31) k.made)) (sym keys2_is) (keys_few p (2 ^ 31) is count)

pub moves_of-requires-clause-few_again : goal.moves_of-requires-clause-few_again
moves_of-requires-clause-few_again g c =
    let see : Made g.row.S-Maker.Denot g.row.S-Maker-Sealed.Denot g.S.Maker.FileMaker → NewSegment = λ m. (g.S.Maker.FileMaker.sealed_bytes m.sealed, m.footer) in
    let st = c.args.state.now in
    let held : Contents = st.contents in
    let p : PreparedPartialView = c.args.prepared.now in
    let again : AgainView = c.args.again in
    let is : IsPreparedPartial p = c.keys.ensures.prepared c.requires.unspent in
    let is_again : IsAgain p.schema (moved_keys held p.version p.keys) again = c.requires.again.is in
    let count : length p.files ≤ 2 ^ 31 = omega (arith, c.count-count.ensures.count, c.if-count-ge-MOST_FILES.false) in
    let more_files : map see c.into_parts-moves.result.2.items ≡ again.files = c.into_parts-moves.ensures.files in
    let many : length again.files ≤ 2 ^ 31 =
    omega (arith, c.into_parts-moves.result.2.ok.0, length-map c.into_parts-moves.result.2.items see, ap length more_files, c.len.ensures, c.if-len-ge-MOST_FILES.false) in
    let stale_is : c.deref.result.now ≡ again.stale = c.deref.ensures.value ∙ c.into_parts-moves.ensures.stale in
    let keys_is : c.keys.result.0.now ≡ p.keys = c.keys.ensures.keys in
    let first_is : c.next_file-first.result ≡ held.next_file = c.next_file-first.ensures in
    let keys2_is : c.keys-2.result.0.now ≡ p.keys = c.keys-2.ensures.keys in
    let moves_is : c.deref-2.result.now ≡ again.moves = c.deref-2.ensures.value ∙ c.into_parts-moves.ensures.moves in
    subst (AllByRecursion (λ e. IsBelow (2 ^ 31) e.1)) (sym moves_is) (again_few p.schema (moved_keys held p.version p.keys) again (2 ^ 31) is_again many)

pub ready-requires-clause-few : goal.ready-requires-clause-few
ready-requires-clause-few g c =
    let see : Made g.row.S-Maker.Denot g.row.S-Maker-Sealed.Denot g.S.Maker.FileMaker → NewSegment = λ m. (g.S.Maker.FileMaker.sealed_bytes m.sealed, m.footer) in
    let st = c.args.state.now in
    let held : Contents = st.contents in
    let p : PreparedPartialView = c.args.prepared.now in
    let again : AgainView = c.args.again in
    let is : IsPreparedPartial p = c.keys.ensures.prepared c.requires.unspent in
    let is_again : IsAgain p.schema (moved_keys held p.version p.keys) again = c.requires.again.is in
    let count : length p.files ≤ 2 ^ 31 = omega (arith, c.count-count.ensures.count, c.if-count-ge-MOST_FILES.false) in
    let more_files : map see c.into_parts-moves.result.2.items ≡ again.files = c.into_parts-moves.ensures.files in
    let many : length again.files ≤ 2 ^ 31 =
    omega (arith, c.into_parts-moves.result.2.ok.0, length-map c.into_parts-moves.result.2.items see, ap length more_files, c.len.ensures, c.if-len-ge-MOST_FILES.false) in
    let stale_is : c.deref.result.now ≡ again.stale = c.deref.ensures.value ∙ c.into_parts-moves.ensures.stale in
    let keys_is : c.keys.result.0.now ≡ p.keys = c.keys.ensures.keys in
    let first_is : c.next_file-first.result ≡ held.next_file = c.next_file-first.ensures in
    let files : List (Made g.row.S-Maker.Denot g.row.S-Maker-Sealed.Denot g.S.Maker.FileMaker) = c.in_ok-files.files.items in
    let files_are : map see files ≡ p.files ++ again.files = c.in_ok-files.ensures.files ∙ ap (λ (fs : List NewSegment). p.files ++ fs) more_files in
    omega (arith, c.in_ok-files.files.ok.0, length-map files see, ap length files_are, length-append p.files again.files, count, many)

pub ready-requires-clause-known : goal.ready-requires-clause-known
ready-requires-clause-known g c =
    let see : Made g.row.S-Maker.Denot g.row.S-Maker-Sealed.Denot g.S.Maker.FileMaker → NewSegment = λ m. (g.S.Maker.FileMaker.sealed_bytes m.sealed, m.footer) in
    let st = c.args.state.now in
    let held : Contents = st.contents in
    let p : PreparedPartialView = c.args.prepared.now in
    let again : AgainView = c.args.again in
    let is : IsPreparedPartial p = c.keys.ensures.prepared c.requires.unspent in
    let is_again : IsAgain p.schema (moved_keys held p.version p.keys) again = c.requires.again.is in
    let count : length p.files ≤ 2 ^ 31 = omega (arith, c.count-count.ensures.count, c.if-count-ge-MOST_FILES.false) in
    let more_files : map see c.into_parts-moves.result.2.items ≡ again.files = c.into_parts-moves.ensures.files in
    let many : length again.files ≤ 2 ^ 31 =
    omega (arith, c.into_parts-moves.result.2.ok.0, length-map c.into_parts-moves.result.2.items see, ap length more_files, c.len.ensures, c.if-len-ge-MOST_FILES.false) in
    let stale_is : c.deref.result.now ≡ again.stale = c.deref.ensures.value ∙ c.into_parts-moves.ensures.stale in
    let keys_is : c.keys.result.0.now ≡ p.keys = c.keys.ensures.keys in
    let first_is : c.next_file-first.result ≡ held.next_file = c.next_file-first.ensures in
    let files : List (Made g.row.S-Maker.Denot g.row.S-Maker-Sealed.Denot g.S.Maker.FileMaker) = c.in_ok-files.files.items in
    let files_are : map see files ≡ p.files ++ again.files = c.in_ok-files.ensures.files ∙ ap (λ (fs : List NewSegment). p.files ++ fs) more_files in
    let clean : schema_fault held.schema.columns held.schema.keys ≡ None =
    subst (λ (s : Layout). schema_fault s.columns s.keys ≡ None) c.schema.ensures c.columns-columns.ensures.valid in
    subst (AllByRecursion (IsMadeOf held.schema)) (sym files_are) (all_known held.schema held p again c.requires.schema clean is is_again)

pub returns-in-Ok-ready-clause-taken : goal.returns-in-Ok-ready-clause-taken
returns-in-Ok-ready-clause-taken g c =
    let see : Made g.row.S-Maker.Denot g.row.S-Maker-Sealed.Denot g.S.Maker.FileMaker → NewSegment = λ m. (g.S.Maker.FileMaker.sealed_bytes m.sealed, m.footer) in
    let st = c.args.state.now in
    let held : Contents = st.contents in
    let p : PreparedPartialView = c.args.prepared.now in
    let again : AgainView = c.args.again in
    let is : IsPreparedPartial p = c.keys.ensures.prepared c.requires.unspent in
    let is_again : IsAgain p.schema (moved_keys held p.version p.keys) again = c.requires.again.is in
    let count : length p.files ≤ 2 ^ 31 = omega (arith, c.count-count.ensures.count, c.if-count-ge-MOST_FILES.false) in
    let more_files : map see c.into_parts-moves.result.2.items ≡ again.files = c.into_parts-moves.ensures.files in
    let many : length again.files ≤ 2 ^ 31 =
    omega (arith, c.into_parts-moves.result.2.ok.0, length-map c.into_parts-moves.result.2.items see, ap length more_files, c.len.ensures, c.if-len-ge-MOST_FILES.false) in
    let stale_is : c.deref.result.now ≡ again.stale = c.deref.ensures.value ∙ c.into_parts-moves.ensures.stale in
    let keys_is : c.keys.result.0.now ≡ p.keys = c.keys.ensures.keys in
    let first_is : c.next_file-first.result ≡ held.next_file = c.next_file-first.ensures in
    let keys2_is : c.keys-2.result.0.now ≡ p.keys = c.keys-2.ensures.keys in
    let moves_is : c.deref-2.result.now ≡ again.moves = c.deref-2.ensures.value ∙ c.into_parts-moves.ensures.moves in
    let files : List (Made g.row.S-Maker.Denot g.row.S-Maker-Sealed.Denot g.S.Maker.FileMaker) = c.in_ok-files.files.items in
    let files_are : map see files ≡ p.files ++ again.files = c.in_ok-files.ensures.files ∙ ap (λ (fs : List NewSegment). p.files ++ fs) more_files in
    let found : HaveSame c.in-Ok.dead.items (dead_places held p again) =
    subst (HaveSame c.in-Ok.dead.items) (λ i. stored_places held.codes (map made_move (keys_is i)) ++ map (place_from (first_is i)) (stale_is i)) c.in-Ok.ensures.found in
    let count_is : c.count-count.result ≡ length p.files = c.count-count.ensures.count in
    let taken : IsTakenOf held p again (map see files) c.in-Ok.dead.items c.in_ok-index.index.items = record {
      files_are = files_are;
      moved_are = c.in_ok-index.ensures
          ∙ (λ i. map (entry_from (first_is i)) (map made_move (keys2_is i)) ++ map (entry_from (first_is i + count_is i)) (moves_is i));
      found = found;
    } in
    subst (λ (x : Change g.row.S-Maker.Denot g.row.S-Maker-Sealed.Denot g.S.Maker.FileMaker). IsTakenOf held p again (map see x.files.items) x.dead.items x.index.items) (sym c.in-Ok-ready.ensures.change) taken

pub returns-in-Ok-ready-clause-change : goal.returns-in-Ok-ready-clause-change
returns-in-Ok-ready-clause-change g c b h over =
    let see : Made g.row.S-Maker.Denot g.row.S-Maker-Sealed.Denot g.S.Maker.FileMaker → NewSegment = λ m. (g.S.Maker.FileMaker.sealed_bytes m.sealed, m.footer) in
    let st = c.args.state.now in
    let held : Contents = st.contents in
    let p : PreparedPartialView = c.args.prepared.now in
    let again : AgainView = c.args.again in
    let is : IsPreparedPartial p = c.keys.ensures.prepared c.requires.unspent in
    let is_again : IsAgain p.schema (moved_keys held p.version p.keys) again = c.requires.again.is in
    let count : length p.files ≤ 2 ^ 31 = omega (arith, c.count-count.ensures.count, c.if-count-ge-MOST_FILES.false) in
    let more_files : map see c.into_parts-moves.result.2.items ≡ again.files = c.into_parts-moves.ensures.files in
    let many : length again.files ≤ 2 ^ 31 =
    omega (arith, c.into_parts-moves.result.2.ok.0, length-map c.into_parts-moves.result.2.items see, ap length more_files, c.len.ensures, c.if-len-ge-MOST_FILES.false) in
    let stale_is : c.deref.result.now ≡ again.stale = c.deref.ensures.value ∙ c.into_parts-moves.ensures.stale in
    let keys_is : c.keys.result.0.now ≡ p.keys = c.keys.ensures.keys in
    let first_is : c.next_file-first.result ≡ held.next_file = c.next_file-first.ensures in
    let keys2_is : c.keys-2.result.0.now ≡ p.keys = c.keys-2.ensures.keys in
    let moves_is : c.deref-2.result.now ≡ again.moves = c.deref-2.ensures.value ∙ c.into_parts-moves.ensures.moves in
    let files : List (Made g.row.S-Maker.Denot g.row.S-Maker-Sealed.Denot g.S.Maker.FileMaker) = c.in_ok-files.files.items in
    let files_are : map see files ≡ p.files ++ again.files = c.in_ok-files.ensures.files ∙ ap (λ (fs : List NewSegment). p.files ++ fs) more_files in
    let open_ : st.closed ≡ None = (goes_on st c.requires.goes).0 in
    let found : HaveSame c.in-Ok.dead.items (dead_places held p again) =
    subst (HaveSame c.in-Ok.dead.items) (λ i. stored_places held.codes (map made_move (keys_is i)) ++ map (place_from (first_is i)) (stale_is i)) c.in-Ok.ensures.found in
    let count_is : c.count-count.result ≡ length p.files = c.count-count.ensures.count in
    let taken : IsTakenOf held p again (map see files) c.in-Ok.dead.items c.in_ok-index.index.items = record {
      files_are = files_are;
      moved_are = c.in_ok-index.ensures
          ∙ (λ i. map (entry_from (first_is i)) (map made_move (keys2_is i)) ++ map (entry_from (first_is i + count_is i)) (moves_is i));
      found = found;
    } in
    let is_change : IsChangeOf held.schema (index_of held) b p.load held.next_file (map see files) c.in-Ok.dead.items c.in_ok-index.index.items =
    change_taken g.S.Store.view see st b h open_ (g.met.S.Store.honest_reads st.store) (λ seen m. g.met.S.Store.sealed_tells st.store m.sealed seen) p again c.requires.schema is is_again over
    files c.in-Ok.dead.items c.in_ok-index.index.items taken in
    subst (λ (x : Change g.row.S-Maker.Denot g.row.S-Maker-Sealed.Denot g.S.Maker.FileMaker). IsChangeOf held.schema (index_of held) b p.load held.next_file (map see x.files.items) x.dead.items x.index.items)
    (sym c.in-Ok-ready.ensures.change) is_change

pub put_back-requires : goal.put_back-requires
put_back-requires g c =
    let see : Made g.row.S-Maker.Denot g.row.S-Maker-Sealed.Denot g.S.Maker.FileMaker → NewSegment = λ m. (g.S.Maker.FileMaker.sealed_bytes m.sealed, m.footer) in
    let st = c.args.state.now in
    let held : Contents = st.contents in
    let p : PreparedPartialView = c.args.prepared.now in
    let again : AgainView = c.args.again in
    let is : IsPreparedPartial p = c.keys.ensures.prepared c.requires.unspent in
    let is_again : IsAgain p.schema (moved_keys held p.version p.keys) again = c.requires.again.is in
    let count : length p.files ≤ 2 ^ 31 = omega (arith, c.count-count.ensures.count, c.if-count-ge-MOST_FILES.false) in
    let more_files : map see c.into_parts-moves.result.2.items ≡ again.files = c.into_parts-moves.ensures.files in
    let many : length again.files ≤ 2 ^ 31 =
    omega (arith, c.into_parts-moves.result.2.ok.0, length-map c.into_parts-moves.result.2.items see, ap length more_files, c.len.ensures, c.if-len-ge-MOST_FILES.false) in
    let stale_is : c.deref.result.now ≡ again.stale = c.deref.ensures.value ∙ c.into_parts-moves.ensures.stale in
    let keys_is : c.keys.result.0.now ≡ p.keys = c.keys.ensures.keys in
    let first_is : c.next_file-first.result ≡ held.next_file = c.next_file-first.ensures in
    let files : List (Made g.row.S-Maker.Denot g.row.S-Maker-Sealed.Denot g.S.Maker.FileMaker) = c.in_ok-files.files.items in
    let files_are : map see files ≡ p.files ++ again.files = c.in_ok-files.ensures.files ∙ ap (λ (fs : List NewSegment). p.files ++ fs) more_files in
    let count_is : c.count-count.result ≡ length p.files = c.count-count.ensures.count in
    let change = c.in-Err-default-Memory.change in
    let kept : map see change.files.items ≡ p.files ++ again.files = ap (λ (x : Change g.row.S-Maker.Denot g.row.S-Maker-Sealed.Denot g.S.Maker.FileMaker). map see x.files.items) c.in-Err-default-Memory.ensures.kept ∙ files_are in
    let back : take c.count-count.result (map see change.files.items) ≡ p.files =
    ap (take c.count-count.result) kept ∙ ap (λ (n : ℕ). take n (p.files ++ again.files)) count_is ∙ take_first p.files again.files in
    record { kept = subst IsPreparedPartial (λ i. record (sym c.in_ok-files.ensures.left i) { files = sym back i; spent = c.requires.unspent i }) is }

pub returns-in-Err-default-Memory-clause-kept : goal.returns-in-Err-default-Memory-clause-kept
returns-in-Err-default-Memory-clause-kept g c _ =
    let see : Made g.row.S-Maker.Denot g.row.S-Maker-Sealed.Denot g.S.Maker.FileMaker → NewSegment = λ m. (g.S.Maker.FileMaker.sealed_bytes m.sealed, m.footer) in
    let st = c.args.state.now in
    let held : Contents = st.contents in
    let p : PreparedPartialView = c.args.prepared.now in
    let again : AgainView = c.args.again in
    let is : IsPreparedPartial p = c.keys.ensures.prepared c.requires.unspent in
    let is_again : IsAgain p.schema (moved_keys held p.version p.keys) again = c.requires.again.is in
    let count : length p.files ≤ 2 ^ 31 = omega (arith, c.count-count.ensures.count, c.if-count-ge-MOST_FILES.false) in
    let more_files : map see c.into_parts-moves.result.2.items ≡ again.files = c.into_parts-moves.ensures.files in
    let many : length again.files ≤ 2 ^ 31 =
    omega (arith, c.into_parts-moves.result.2.ok.0, length-map c.into_parts-moves.result.2.items see, ap length more_files, c.len.ensures, c.if-len-ge-MOST_FILES.false) in
    let stale_is : c.deref.result.now ≡ again.stale = c.deref.ensures.value ∙ c.into_parts-moves.ensures.stale in
    let keys_is : c.keys.result.0.now ≡ p.keys = c.keys.ensures.keys in
    let first_is : c.next_file-first.result ≡ held.next_file = c.next_file-first.ensures in
    let files : List (Made g.row.S-Maker.Denot g.row.S-Maker-Sealed.Denot g.S.Maker.FileMaker) = c.in_ok-files.files.items in
    let files_are : map see files ≡ p.files ++ again.files = c.in_ok-files.ensures.files ∙ ap (λ (fs : List NewSegment). p.files ++ fs) more_files in
    let count_is : c.count-count.result ≡ length p.files = c.count-count.ensures.count in
    let change = c.in-Err-default-Memory.change in
    let kept : map see change.files.items ≡ p.files ++ again.files = ap (λ (x : Change g.row.S-Maker.Denot g.row.S-Maker-Sealed.Denot g.S.Maker.FileMaker). map see x.files.items) c.in-Err-default-Memory.ensures.kept ∙ files_are in
    let back : take c.count-count.result (map see change.files.items) ≡ p.files =
    ap (take c.count-count.result) kept ∙ ap (λ (n : ℕ). take n (p.files ++ again.files)) count_is ∙ take_first p.files again.files in
    c.put_back.ensures ∙ (λ i. record (c.in_ok-files.ensures.left i) { files = back i; spent = sym c.requires.unspent i })

pub returns-clause-wrong : goal.returns-clause-wrong
returns-clause-wrong g c _ =
    let see : Made g.row.S-Maker.Denot g.row.S-Maker-Sealed.Denot g.S.Maker.FileMaker → NewSegment = λ m. (g.S.Maker.FileMaker.sealed_bytes m.sealed, m.footer) in
    let st = c.args.state.now in
    let held : Contents = st.contents in
    let p : PreparedPartialView = c.args.prepared.now in
    let again : AgainView = c.args.again in
    let is : IsPreparedPartial p = c.keys.ensures.prepared c.requires.unspent in
    let is_again : IsAgain p.schema (moved_keys held p.version p.keys) again = c.requires.again.is in
    let count : length p.files ≤ 2 ^ 31 = omega (arith, c.count-count.ensures.count, c.if-count-ge-MOST_FILES.false) in
    let more_files : map see c.into_parts-moves.result.2.items ≡ again.files = c.into_parts-moves.ensures.files in
    let many : length again.files ≤ 2 ^ 31 =
    omega (arith, c.into_parts-moves.result.2.ok.0, length-map c.into_parts-moves.result.2.items see, ap length more_files, c.len.ensures, c.if-len-ge-MOST_FILES.false) in
    let stale_is : c.deref.result.now ≡ again.stale = c.deref.ensures.value ∙ c.into_parts-moves.ensures.stale in
    let keys_is : c.keys.result.0.now ≡ p.keys = c.keys.ensures.keys in
    let first_is : c.next_file-first.result ≡ held.next_file = c.next_file-first.ensures in
    let keys2_is : c.keys-2.result.0.now ≡ p.keys = c.keys-2.ensures.keys in
    let moves_is : c.deref-2.result.now ≡ again.moves = c.deref-2.ensures.value ∙ c.into_parts-moves.ensures.moves in
    let files : List (Made g.row.S-Maker.Denot g.row.S-Maker-Sealed.Denot g.S.Maker.FileMaker) = c.in_ok-files.files.items in
    let files_are : map see files ≡ p.files ++ again.files = c.in_ok-files.ensures.files ∙ ap (λ (fs : List NewSegment). p.files ++ fs) more_files in
    let found : HaveSame c.in-Ok.dead.items (dead_places held p again) =
    subst (HaveSame c.in-Ok.dead.items) (λ i. stored_places held.codes (map made_move (keys_is i)) ++ map (place_from (first_is i)) (stale_is i)) c.in-Ok.ensures.found in
    let count_is : c.count-count.result ≡ length p.files = c.count-count.ensures.count in
    let taken : IsTakenOf held p again (map see files) c.in-Ok.dead.items c.in_ok-index.index.items = record {
      files_are = files_are;
      moved_are = c.in_ok-index.ensures
          ∙ (λ i. map (entry_from (first_is i)) (map made_move (keys2_is i)) ++ map (entry_from (first_is i + count_is i)) (moves_is i));
      found = found;
    } in
    wrong_row held st.segments p again (map see files) c.in-Ok.dead.items c.requires.again files_are found (c.in-Err-default-NotLive.ensures.not_live c.in-Err-default-NotLive.field-0-1-is)

pub returns-clause-intact : goal.returns-clause-intact
returns-clause-intact g c b h over =
    let see : Made g.row.S-Maker.Denot g.row.S-Maker-Sealed.Denot g.S.Maker.FileMaker → NewSegment = λ m. (g.S.Maker.FileMaker.sealed_bytes m.sealed, m.footer) in
    let st = c.args.state.now in
    let held : Contents = st.contents in
    let p : PreparedPartialView = c.args.prepared.now in
    let again : AgainView = c.args.again in
    let is : IsPreparedPartial p = c.keys.ensures.prepared c.requires.unspent in
    let is_again : IsAgain p.schema (moved_keys held p.version p.keys) again = c.requires.again.is in
    let count : length p.files ≤ 2 ^ 31 = omega (arith, c.count-count.ensures.count, c.if-count-ge-MOST_FILES.false) in
    let more_files : map see c.into_parts-moves.result.2.items ≡ again.files = c.into_parts-moves.ensures.files in
    let many : length again.files ≤ 2 ^ 31 =
    omega (arith, c.into_parts-moves.result.2.ok.0, length-map c.into_parts-moves.result.2.items see, ap length more_files, c.len.ensures, c.if-len-ge-MOST_FILES.false) in
    let stale_is : c.deref.result.now ≡ again.stale = c.deref.ensures.value ∙ c.into_parts-moves.ensures.stale in
    let keys_is : c.keys.result.0.now ≡ p.keys = c.keys.ensures.keys in
    let first_is : c.next_file-first.result ≡ held.next_file = c.next_file-first.ensures in
    let keys2_is : c.keys-2.result.0.now ≡ p.keys = c.keys-2.ensures.keys in
    let moves_is : c.deref-2.result.now ≡ again.moves = c.deref-2.ensures.value ∙ c.into_parts-moves.ensures.moves in
    let files : List (Made g.row.S-Maker.Denot g.row.S-Maker-Sealed.Denot g.S.Maker.FileMaker) = c.in_ok-files.files.items in
    let files_are : map see files ≡ p.files ++ again.files = c.in_ok-files.ensures.files ∙ ap (λ (fs : List NewSegment). p.files ++ fs) more_files in
    let open_ : st.closed ≡ None = (goes_on st c.requires.goes).0 in
    let found : HaveSame c.in-Ok.dead.items (dead_places held p again) =
    subst (HaveSame c.in-Ok.dead.items) (λ i. stored_places held.codes (map made_move (keys_is i)) ++ map (place_from (first_is i)) (stale_is i)) c.in-Ok.ensures.found in
    let count_is : c.count-count.result ≡ length p.files = c.count-count.ensures.count in
    let taken : IsTakenOf held p again (map see files) c.in-Ok.dead.items c.in_ok-index.index.items = record {
      files_are = files_are;
      moved_are = c.in_ok-index.ensures
          ∙ (λ i. map (entry_from (first_is i)) (map made_move (keys2_is i)) ++ map (entry_from (first_is i + count_is i)) (moves_is i));
      found = found;
    } in
    let is_change : IsChangeOf held.schema (index_of held) b p.load held.next_file (map see files) c.in-Ok.dead.items c.in_ok-index.index.items =
    change_taken g.S.Store.view see st b h open_ (g.met.S.Store.honest_reads st.store) (λ seen m. g.met.S.Store.sealed_tells st.store m.sealed seen) p again c.requires.schema is is_again over
    files c.in-Ok.dead.items c.in_ok-index.index.items taken in
    absurd (cc (sym c.in-Err-default-NotLive.field-0-1-is ∙ c.in-Err-default-NotLive.ensures.live b p.load h is_change))
