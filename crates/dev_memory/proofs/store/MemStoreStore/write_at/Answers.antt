use Rattle.std.proofs.Common.{◌≡◌, refl, ap, Some, true, false}
use Rattle.dev_memory.proofs.Views.{write_still, write_crash, write_read, reads_elsewhere}
use Rattle.dev_memory.proofs.store.MemStoreStore.write_at.Goals as goal

pub returns-in-true-false-clause-crash : goal.returns-in-true-false-clause-crash
returns-in-true-false-clause-crash c = write_still _ _ _ _ _ _ _ _ _ _ _

pub returns-in-true-true-clause-crash : goal.returns-in-true-true-clause-crash
returns-in-true-true-clause-crash c = let inside = c.requires.inside _ refl in let yes : c.is_within.result ≡ true = cc in write_crash c.args.self.now.kept.held c.fail_write.new.self.held c.args.self.now.valid c.args.area c.requires.there c.args.at c.args.piece.now false c.fail_write.ensures.written inside.0 inside.1 (c.is_within.ensures.within yes) _ _ _ _ _ _ _

pub returns-in-true-true-clause-elsewhere : goal.returns-in-true-true-clause-elsewhere
returns-in-true-true-clause-elsewhere c = let inside = c.requires.inside _ refl in let yes : c.is_within.result ≡ true = cc in reads_elsewhere c.args.area _ _ _ (write_read c.args.self.now.kept.held c.fail_write.new.self.held c.args.self.now.valid c.args.area c.requires.there c.args.at c.args.piece.now false c.fail_write.ensures.written inside.0 inside.1 (c.is_within.ensures.within yes))

pub returns-in-false-true-clause-crash : goal.returns-in-false-true-clause-crash
returns-in-false-true-clause-crash c = let inside = c.requires.inside _ refl in let yes : c.is_within.result ≡ true = cc in write_crash c.args.self.now.kept.held c.write.new.self.held c.args.self.now.valid c.args.area c.requires.there c.args.at c.args.piece.now true c.write.ensures.written inside.0 inside.1 (c.is_within.ensures.within yes) _ _ _ _ _ _ _

pub returns-in-false-true-clause-written : goal.returns-in-false-true-clause-written
returns-in-false-true-clause-written c = let inside = c.requires.inside _ refl in let yes : c.is_within.result ≡ true = cc in ap Some (write_read c.args.self.now.kept.held c.write.new.self.held c.args.self.now.valid c.args.area c.requires.there c.args.at c.args.piece.now true c.write.ensures.written inside.0 inside.1 (c.is_within.ensures.within yes))

pub returns-in-false-true-clause-elsewhere : goal.returns-in-false-true-clause-elsewhere
returns-in-false-true-clause-elsewhere c = let inside = c.requires.inside _ refl in let yes : c.is_within.result ≡ true = cc in reads_elsewhere c.args.area _ _ _ (write_read c.args.self.now.kept.held c.write.new.self.held c.args.self.now.valid c.args.area c.requires.there c.args.at c.args.piece.now true c.write.ensures.written inside.0 inside.1 (c.is_within.ensures.within yes))

pub returns-in-false-false-clause-crash : goal.returns-in-false-false-clause-crash
returns-in-false-false-clause-crash c = write_still _ _ _ _ _ _ _ _ _ _ _

pub write-requires-clause-some : goal.write-requires-clause-some
write-requires-clause-some c = (c.requires.inside _ refl).0

pub write-requires-clause-inside : goal.write-requires-clause-inside
write-requires-clause-inside c = (c.requires.inside _ refl).1
