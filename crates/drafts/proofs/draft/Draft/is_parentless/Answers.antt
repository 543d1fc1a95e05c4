use Rattle.std.proofs.Common.{rules}
use Rattle.shapes.proofs.Keeping.{kept_parentless}
use Rattle.drafts.proofs.draft.Draft.is_parentless.Goals as goal

pub returns : goal.returns
returns c = kept_parentless _ _ _ _ c.args.self.now.kept (search rules)
