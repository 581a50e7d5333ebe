-- The codes of what contracts see of a state.
use Rattle.std.specs.Prelude.{ℕ, List, Option, refl}
use Rattle.std.specs.Coded.{Coded, code_by, coded×, coded_ℕ, coded_list, coded_option}
use Rattle.pk_values.specs.Schemas.{Layout}
use Rattle.pk_values.specs.contracts.schemas.Schema as schema_contract
use Rattle.dev_traits.specs.Reader.{ReaderView}
use Rattle.column_page.specs.declared.footers.Footer.{Footer}
use Rattle.column_page.specs.contracts.footers.Footer as footer_contract
use Rattle.rowsets.specs.Indexing.{CodeMap}
use Rattle.journal_form.specs.declared.records.LevelList.{LevelList}
use Rattle.journal_form.specs.contracts.records.ListedFile as listed_contract
use Rattle.journal_form.specs.contracts.records.LevelList as levels_contract
use Rattle.journal_form.specs.Versions.{Rowset as ListedRowset}
use Rattle.kept_versions.specs.Indexes.{coded_codes}
use Rattle.tablet_state.specs.Contents.{Contents, UnderWay}
use Rattle.tablet_state.specs.State.{Room, SegmentView, Shown}

abbrev pub coded_rowsets : Coded (List ListedRowset)
coded_rowsets = coded_list (coded_list (listed_contract.the_row).coded)

abbrev pub coded_under_way : Coded UnderWay
coded_under_way =
    code_by (ℕ × (ℕ × List ListedRowset)) (coded× coded_ℕ (coded× coded_ℕ coded_rowsets)) (λ p. (p.place, (p.version, p.rowsets)))
    (λ q. record { place = q.0; version = q.1.0; rowsets = q.1.1 }) (λ _. refl)

abbrev pub coded_contents : Coded Contents
coded_contents =
    code_by (((Layout × ℕ) × (ℕ × ℕ)) × ((ℕ × ℕ) × ((List (List ListedRowset) × List ListedRowset) × (Option LevelList × (CodeMap × Option UnderWay)))))
    (coded× (coded× (coded× (schema_contract.the_row).coded coded_ℕ) (coded× coded_ℕ coded_ℕ))
    (coded× (coded× coded_ℕ coded_ℕ) (coded× (coded× (coded_list coded_rowsets) coded_rowsets) (coded× (coded_option (levels_contract.the_row).coded) (coded× coded_codes (coded_option coded_under_way))))))
    (λ c. (((c.schema, c.form), (c.epoch, c.edit)), ((c.floor, c.next_file), ((c.older, c.current), (c.levels, (c.codes, c.plan))))))
    (λ p. record {
      schema = p.0.0.0;
      form = p.0.0.1;
      epoch = p.0.1.0;
      edit = p.0.1.1;
      floor = p.1.0.0;
      next_file = p.1.0.1;
      older = p.1.1.0.0;
      current = p.1.1.0.1;
      levels = p.1.1.1.0;
      codes = p.1.1.1.1.0;
      plan = p.1.1.1.1.1;
    })
    (λ _. refl)

abbrev pub coded_reader : Coded ReaderView
coded_reader =
    code_by ((Option (List ℕ) × ℕ) × (ℕ × ℕ)) (coded× (coded× (coded_option (coded_list coded_ℕ)) coded_ℕ) (coded× coded_ℕ coded_ℕ))
    (λ r. ((r.bytes, r.size), (r.faults, r.reads))) (λ p. record { bytes = p.0.0; size = p.0.1; faults = p.1.0; reads = p.1.1 }) (λ _. refl)

abbrev pub coded_segment : Coded SegmentView
coded_segment =
    code_by (ℕ × (ReaderView × Footer)) (coded× coded_ℕ (coded× coded_reader (footer_contract.the_row).coded)) (λ g. (g.number, (g.reader, g.footer)))
    (λ q. record { number = q.0; reader = q.1.0; footer = q.1.1 }) (λ _. refl)

abbrev pub coded_room : Coded Room
coded_room = code_by (ℕ × (ℕ × ℕ)) (coded× coded_ℕ (coded× coded_ℕ coded_ℕ)) (λ r. (r.versions, (r.segments, r.keys))) (λ q. record { versions = q.0; segments = q.1.0; keys = q.1.1 }) (λ _. refl)

abbrev pub coded_shown : {S : Type 0} → Coded S → Coded (Shown S)
coded_shown {S} code =
    code_by (((S × ℕ) × (ℕ × ℕ)) × ((Contents × List SegmentView) × (Room × Option ℕ)))
    (coded× (coded× (coded× code coded_ℕ) (coded× coded_ℕ coded_ℕ)) (coded× (coded× coded_contents (coded_list coded_segment)) (coded× coded_room (coded_option coded_ℕ))))
    (λ s. (((s.store, s.maker_faults), (s.area, s.end)), ((s.contents, s.segments), (s.room, s.closed))))
    (λ p. record { store = p.0.0.0; maker_faults = p.0.0.1; area = p.0.1.0; end = p.0.1.1; contents = p.1.0.0; segments = p.1.0.1; room = p.1.1.0; closed = p.1.1.1 })
    (λ _. refl)
