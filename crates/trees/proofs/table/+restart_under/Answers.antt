use Rattle.std.proofs.Common.{ap, arith}
use Rattle.shapes.specs.Nodes.{size_of, depth_of}
use Rattle.shapes.proofs.Hanging.{hangs_concat, right_still, right_still_node, concat_restarts}
use Rattle.trees.proofs.table.+restart_under.Goals as goal

pub restart_under-requires : goal.restart_under-requires
restart_under-requires t c =
    let parts = hangs_concat c.requires.hangs c.in-Concat.is in
    (omega (arith, c.decreases, parts.left_less), (parts.l, omega (arith, parts.left_size, parts.whole_size, c.requires.fits)))

pub restart_under-requires-in-Concat : goal.restart_under-requires-in-Concat
restart_under-requires-in-Concat t c =
    let parts = hangs_concat c.requires.hangs c.in-Concat.is in
    let still = right_still_node parts c.restart_under.new.nodes c.args.start c.restart_under.ensures in (
      omega (arith, c.decreases, parts.right_less, ap depth_of still),
      (
        right_still parts c.restart_under.new.nodes c.args.start c.restart_under.ensures,
        omega (arith, parts.left_size, parts.right_size, parts.whole_size, c.requires.fits, c.end_of-behind.ensures, ap size_of still),
      ),
    )

pub returns-in-Concat : goal.returns-in-Concat
returns-in-Concat t c =
    let parts = hangs_concat c.requires.hangs c.in-Concat.is in
    concat_restarts parts _ _ c.restart_under.ensures _ _ c.end_of-behind.ensures c.restart_under-in-Concat.ensures
