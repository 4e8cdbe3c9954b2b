use Rattle.mqtt_message.proofs.order.+compare_groups.Given as goal

abbrev pub decreases-compare_groups : goal.decreases-compare_groups
decreases-compare_groups l = l.more
