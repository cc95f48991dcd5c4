-- `markdown::put_item` meets its contract.
-- Assumes nothing.
use Rattle.markdown.proofs.StoreLaws.{kind_short}
use Rattle.markdown.proofs.StoreLaws.{block_stored, at_block, item_state, bits_low}
use Rattle.markdown.specs.Shape.{mark}
use mathlib.Core.List.{[]}
use Rattle.text.specs.Utf8.{chars}
use Rattle.spans.specs.Spans.{spans}
use Rattle.records.specs.Blocks.{Item}
use native.Mathlib.Omega.{arith}
use mathlib.Core.Path.{◌∙◌, sym}
use Rattle.markdown.proofs.writer.put_item.Goals as goal

pub put_spans-w-requires : goal.put_spans-w-requires
put_spans-w-requires c =
    let p = c.requires in
    let k = kind_short c.args.digits.bytes.now c.args.depth c.args.digits.few c.args.digits.ascii in
    let f = c.put_fields-fields.ensures.0 in
    (omega (arith, f), (omega (arith, f, k, p.0), (p.1, omega (arith, c.item_map-map.ensures [], bits_low c.args.depth []))))

pub returns : goal.returns
returns c =
    let mk = mark c.args.digits.bytes.now in
    let b = Item c.args.depth mk (spans (chars c.args.text.now)) in
    let p = c.put_spans-w.ensures in
    let f = c.put_fields-fields.ensures in
    let m = c.item_map-map.ensures mk in
    (item_state c.args.s _ _ _ _ _ mk _ (at_block b _ _ _ (sym f.0) p.next) (c.from.ensures ∙ m) f.0 p.count, block_stored b _ _ _ _ _ f.1 (sym f.0) (rw m at p.stored))
