use Rattle.std.proofs.Common.{◌≡◌, [], length, arith, refl}
use Rattle.ob_objects.specs.Trees.{leaf}
use Rattle.ob_objects.proofs.table.ObjectTable.new.Goals as goal

pub invariant_of-result : goal.invariant_of-result
invariant_of-result c =
    let size : length c.push_reserved.new.self.items ≡ 1 = grind arith in
    record {
      tree = leaf;
      frees = [];
      arena = record {
        link = refl;
        stands = tt;
        listed = refl;
        each = λ k some within. absurd (omega arith);
        count = omega arith;
        in_order = λ i j d less within. absurd (omega arith);
      };
      few = omega arith;
      fit = omega (arith, c.push_reserved.ensures.capacity, c.in_ok-nodes.ensures.exact);
      limit = c.requires;
    }
